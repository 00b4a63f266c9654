-- The decoding of commands is the inverse of their encoding.
use Rattle.std.proofs.Common.{◌≡◌, ℕ, ◌<◌, ◌^◌, true, List, [], ◌++◌, get_or, Some, refl, sym, ap, subst, ◌∙◌}
use Rattle.std.specs.Option.{option_map}
use Rattle.std.proofs.lemmas.Option.{same_Some}
use Rattle.std.proofs.lemmas.List.Elements.{All-from_get_or}
use Rattle.milter_wire.specs.declared.command.Command.{Command}
use Rattle.milter_wire.specs.declared.command.Command.TheVariants.{Options, Macro, Connect, Helo, Mail, Rcpt, DataCmd, Header, Eoh, Body, Eob, Unknown, Abort, Quit, QuitNew}
use Rattle.milter_fields.specs.declared.path.Path.{Path}
use Rattle.milter_fields.specs.Layout.{path, PathFits}
use Rattle.milter_fields.specs.Packet.{packet, IsPayload}
use Rattle.milter_fields.specs.Decoders.{client_in, header_in, macro_in, path_in, string_in}
use Rattle.milter_wire.specs.OptionsPayload.{options_in}
use Rattle.milter_wire.specs.Command.{code_of, payload_of, is_code, FieldsFit, IsEncodedAs, command_in, rows}
use Rattle.milter_fields.specs.Number.{IsBytes}
use Rattle.milter_wire.proofs.PayloadLaws.{options_in-options, options_take}
use Rattle.milter_wire.proofs.Grammar.{◌⨾◌, EachRow, Reads, bytes_row, field_row, empty_row, row_relates}
use Rattle.milter_fields.proofs.StreamLaws.{packet-same, packet-whole}
use Rattle.milter_fields.proofs.StringFields.{one_string_takes, string_in-string}
use Rattle.milter_fields.proofs.Values.{client_takes, client_in-client, header_takes, header_in-header, macro_takes, macro_in-macro, path_takes, path_in-path}

-- a code and a payload that are a command's row of the table
record IsRow (c : Command) (code : ℕ) (payload : List ℕ) : Type 0 where
  code_is : code ≡ code_of c
  payload_is : payload ≡ payload_of c
  fields : FieldsFit c

-- the rows
each_row : (payload : List ℕ) → IsBytes payload → EachRow IsRow payload rows
each_row payload bytes =
    let Relates : ℕ → Command → Type 0 = λ code c. IsRow c code payload in
    let path_of : (code : ℕ) (make : Path → Command) → ((p : Path) → code ≡ code_of (make p)) → ((p : Path) → path p ≡ payload_of (make p)) → ((p : Path) → PathFits p → FieldsFit (make p))
    → (c : Command) → option_map make (path_in payload) ≡ Some c → IsRow c code payload
    = λ code make same encoded fit. field_row (Relates code) make (path_in payload)
    (λ p read. let t = path_takes payload p read in record { code_is = same p; payload_is = t.0 ∙ encoded p; fields = fit p t.1 }) in
    empty_row (λ c. IsRow c 65) Abort payload record { code_is = refl; payload_is = refl; fields = tt }
    ⨾ (λ c. bytes_row (Relates 66) (Body payload) c record { code_is = refl; payload_is = refl; fields = tt })
    ⨾ field_row (Relates 67) Connect (client_in payload) (λ x read. let t = client_takes payload x bytes read in record { code_is = refl; payload_is = t.0; fields = t.1 })
    ⨾ field_row (Relates 68) (λ m. Macro m.0 m.1) (macro_in payload) (λ m read. let t = macro_takes payload m read in record { code_is = refl; payload_is = t.0; fields = t.1 })
    ⨾ (λ c. bytes_row (Relates 69) (Eob payload) c record { code_is = refl; payload_is = refl; fields = tt })
    ⨾ field_row (Relates 72) Helo (string_in payload) (λ x read. let t = one_string_takes payload x read in record { code_is = refl; payload_is = t.bytes_are; fields = t.no_nul })
    ⨾ empty_row (λ c. IsRow c 75) QuitNew payload record { code_is = refl; payload_is = refl; fields = tt }
    ⨾ field_row (Relates 76) Header (header_in payload) (λ h read. let t = header_takes payload h read in record { code_is = refl; payload_is = t.0; fields = t.1 })
    ⨾ path_of 77 Mail (λ p. refl) (λ p. refl) (λ p fits. fits)
    ⨾ empty_row (λ c. IsRow c 78) Eoh payload record { code_is = refl; payload_is = refl; fields = tt }
    ⨾ field_row (Relates 79) Options (options_in payload) (λ o read. let t = options_take payload o bytes read in record { code_is = refl; payload_is = t.0; fields = t.1 })
    ⨾ empty_row (λ c. IsRow c 81) Quit payload record { code_is = refl; payload_is = refl; fields = tt }
    ⨾ path_of 82 Rcpt (λ p. refl) (λ p. refl) (λ p fits. fits)
    ⨾ empty_row (λ c. IsRow c 84) DataCmd payload record { code_is = refl; payload_is = refl; fields = tt }
    ⨾ field_row (Relates 85) Unknown (string_in payload) (λ x read. let t = one_string_takes payload x read in record { code_is = refl; payload_is = t.bytes_are; fields = t.no_nul })
    ⨾ tt

command_row : (code : ℕ) (payload : List ℕ) (c : Command) → IsBytes payload → command_in code payload ≡ Some c → IsRow c code payload
unfolding command_in
command_row code payload c bytes e = row_relates IsRow rows code payload c (each_row payload bytes) e

pub command_again : (c : Command) → FieldsFit c → command_in (code_of c) (payload_of c) ≡ Some c
unfolding command_in
command_again Abort fits = refl
command_again (Body bytes) fits = refl
command_again (Connect c) fits = rw (client_in-client c fits) refl
command_again (Macro command pairs) fits = rw (macro_in-macro command pairs fits) refl
command_again (Eob bytes) fits = refl
command_again (Helo name) fits = rw (string_in-string name fits) refl
command_again QuitNew fits = refl
command_again (Header h) fits = rw (header_in-header h fits) refl
command_again (Mail sender) fits = rw (path_in-path sender fits) refl
command_again Eoh fits = refl
command_again (Options o) fits = rw (options_in-options o fits) refl
command_again Quit fits = refl
command_again (Rcpt recipient) fits = rw (path_in-path recipient fits) refl
command_again DataCmd fits = refl
command_again (Unknown text) fits = rw (string_in-string text fits) refl

encoded_is_decoded : (code : ℕ) (payload : List ℕ) (c : Command) → IsEncodedAs c (packet code payload) → command_in code payload ≡ Some c
encoded_is_decoded code payload c s =
    let same = packet-same code (code_of c) payload (payload_of c) s.bytes_are in
    ap (λ (n : ℕ). command_in n payload) same.0 ∙ ap (command_in (code_of c)) same.1 ∙ command_again c s.fits.fields

pub command_known : (c : Command) → is_code (code_of c) ≡ true
unfolding is_code
command_known Abort = refl
command_known (Body bytes) = refl
command_known (Connect c) = refl
command_known (Macro command pairs) = refl
command_known (Eob bytes) = refl
command_known (Helo name) = refl
command_known QuitNew = refl
command_known (Header h) = refl
command_known (Mail sender) = refl
command_known Eoh = refl
command_known (Options o) = refl
command_known Quit = refl
command_known (Rcpt recipient) = refl
command_known DataCmd = refl
command_known (Unknown text) = refl

pub commands_read : (code : ℕ) (payload : List ℕ) → ((i : ℕ) → get_or payload i 0 < 256) → IsPayload payload → Reads (is_code code) (command_in code payload) (λ c. IsEncodedAs c (packet code payload))
commands_read code payload below fits =
    let bytes : IsBytes payload = All-from_get_or (λ b. b < 2 ^ 8) payload 0 (λ i _. below i) in
    record {
      found = λ c e. let row = command_row code payload c bytes e in record {
        fits = record { fields = row.fields; payload = subst IsPayload row.payload_is fits };
        bytes_are = ap (λ (n : ℕ). packet n payload) row.code_is ∙ ap (packet (code_of c)) row.payload_is;
      };
      only = λ c s. encoded_is_decoded code payload c s;
      known_first = λ c e. let row = command_row code payload c bytes e in ap is_code row.code_is ∙ command_known c;
    }

pub commands_one : (c d : Command) (bytes : List ℕ) → IsEncodedAs c bytes → IsEncodedAs d bytes → c ≡ d
commands_one c d bytes s t =
    let u : IsEncodedAs d (packet (code_of c) (payload_of c)) = record { fits = t.fits; bytes_are = sym s.bytes_are ∙ t.bytes_are } in
    same_Some c d (sym (command_again c s.fits.fields) ∙ encoded_is_decoded (code_of c) (payload_of c) d u)

pub commands_whole : (c d : Command) (bytes more : List ℕ) → IsEncodedAs c bytes → IsEncodedAs d (bytes ++ more) → more ≡ []
commands_whole c d bytes more s t =
    packet-whole (code_of c) (code_of d) (payload_of c) (payload_of d) more s.fits.payload t.fits.payload (ap (λ (x : List ℕ). x ++ more) (sym s.bytes_are) ∙ t.bytes_are)
