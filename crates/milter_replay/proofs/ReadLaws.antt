-- What is read of a trace, byte by byte.
use Rattle.std.proofs.Common.{◌≡◌, ◌≢◌, ℕ, zero, suc, ◌+◌, ◌<◌, ◌≤◌, List, [], ◌∷◌, ◌++◌, Option, None, Some, true, false, length, get_or, set, take, drop, refl, sym, ap, subst, ◌∙◌, append_assoc, append-nil, take-append-drop, length-drop, arith}
use Rattle.std.specs.Prelude.{◌==◌, position}
use Rattle.std.proofs.lemmas.List.Quantifiers.{position-Some}
use Rattle.std.proofs.lemmas.List.Concat.{flat_map-append}
use Rattle.milter_wire.specs.Command.{encoding}
use Rattle.milter_text.specs.Lines.{Line, lines_of}
use Rattle.milter_text.proofs.LineLaws.{ended_line, first_line_feed, last_line, no_line_feed}
use Rattle.milter_trace.specs.declared.direction.Direction.{Direction}
use Rattle.milter_trace.specs.declared.direction.Direction.TheVariants.{ToFilter, ToMta}
use Rattle.milter_trace.specs.ParsedLine.{ParsedLine, parsed_line}
use Rattle.milter_trace.specs.Trace.{bytes_if, line_bytes, stream}
use Rattle.milter_replay.specs.Recordings.{commands_bytes}
use Rattle.milter_replay.specs.declared.conversation.Exchange.{Exchange}
use Rattle.milter_replay.specs.declared.conversation.RecordedCommand.{RecordedCommand}

-- ---- the commands

pub one_more : (xs : List Exchange) (x : Exchange) → commands_bytes (xs ++ x ∷ []) ≡ commands_bytes xs ++ encoding x.recorded.command
one_more xs x =
    flat_map-append (λ (exchange : Exchange). encoding exchange.recorded.command) xs (x ∷ [])
    ∙ ap (λ (bytes : List ℕ). commands_bytes xs ++ bytes) (append-nil (encoding x.recorded.command))

-- other replies to a command
pub same_command : (xs : List Exchange) (i : ℕ) (x d : Exchange) → x.recorded ≡ (get_or xs i d).recorded
    → commands_bytes (set xs i x) ≡ commands_bytes xs
same_command [] i x d is = refl
same_command (y ∷ ys) zero x d is = ap (λ (r : RecordedCommand). encoding r.command ++ commands_bytes ys) is
same_command (y ∷ ys) (suc i) x d is = ap (λ (bytes : List ℕ). encoding y.recorded.command ++ bytes) (same_command ys i x d is)

-- ---- the bytes of a direction

pub bytes_if-append : (d : Direction) (xs ys : List ℕ) → bytes_if ToFilter d (xs ++ ys) ≡ bytes_if ToFilter d xs ++ bytes_if ToFilter d ys
bytes_if-append ToFilter xs ys = refl
bytes_if-append ToMta xs ys = refl

-- a piece is taken, and no packet is whole
pub fed : (d : Direction) (read unread piece more : List ℕ) (n : ℕ) → more ≡ unread ++ take n piece
    → read ++ bytes_if ToFilter d (more ++ drop n piece) ≡ read ++ bytes_if ToFilter d (unread ++ piece)
fed d read unread piece more n is =
    ap (λ (x : List ℕ). read ++ bytes_if ToFilter d x)
    (ap (λ (x : List ℕ). x ++ drop n piece) is ∙ append_assoc unread (take n piece) (drop n piece)
    ∙ ap (λ (x : List ℕ). unread ++ x) (take-append-drop n piece))

-- a packet is whole, and nothing is unread then
pub handed : (d : Direction) (read now unread piece packet more : List ℕ) (n : ℕ) → more ≡ unread ++ take n piece → more ≡ packet
    → now ≡ read ++ bytes_if ToFilter d packet
    → now ++ bytes_if ToFilter d (drop n piece) ≡ read ++ bytes_if ToFilter d (unread ++ piece)
handed d read now unread piece packet more n is whole next =
    ap (λ (x : List ℕ). x ++ bytes_if ToFilter d (drop n piece)) next
    ∙ append_assoc read (bytes_if ToFilter d packet) (bytes_if ToFilter d (drop n piece))
    ∙ ap (λ (x : List ℕ). read ++ x) (sym (bytes_if-append d packet (drop n piece)))
    ∙ ap (λ (x : List ℕ). read ++ bytes_if ToFilter d (x ++ drop n piece)) (sym whole)
    ∙ fed d read unread piece more n is

-- ---- the lines

pub first_line : (bytes : List ℕ) (i : ℕ) → position (λ byte. byte == 10) bytes ≡ Some i
    → stream ToFilter (lines_of bytes)
    ≡ line_bytes ToFilter (parsed_line (record { bytes = take i bytes; ended = true })) ++ stream ToFilter (lines_of (drop (i + 1) bytes))
first_line bytes i at =
    let feed = first_line_feed bytes i at in
    ap (λ (lines : List Line). stream ToFilter lines)
    (ap lines_of feed.0 ∙ ended_line (take i bytes) (drop (i + 1) bytes) feed.1)

pub last_bytes : (bytes : List ℕ) → position (λ byte. byte == 10) bytes ≡ None
    → stream ToFilter (lines_of bytes) ≡ line_bytes ToFilter (parsed_line (record { bytes = bytes; ended = false }))
last_bytes [] at = refl
last_bytes (b ∷ bytes) at =
    ap (λ (lines : List Line). stream ToFilter lines) (last_line (b ∷ bytes) (no_line_feed (b ∷ bytes) at) (λ e. nil_cons b bytes e))
    ∙ append-nil (line_bytes ToFilter (parsed_line (record { bytes = b ∷ bytes; ended = false })))
  where
    nil_cons : (b : ℕ) (bytes : List ℕ) → (b ∷ bytes) ≡ [] → ⊥
    nil_cons b bytes e = let len = ap length e in absurd (omega (arith, len))

pub end_within : (bytes : List ℕ) (i : ℕ) → position (λ byte. byte == 10) bytes ≡ Some i → i < length bytes
end_within bytes i at = (position-Some (λ byte. byte == 10) bytes i 0 at).0

pub few_lines : (number end : ℕ) (rest : List ℕ) (most : ℕ) → end < length rest → number + length rest ≤ most
    → number + 1 + length (drop (end + 1) rest) ≤ most
few_lines number end rest most within few = let len = length-drop (end + 1) rest in omega (arith, len, within, few)

-- ---- a line of bytes

-- bytes to the filter
pub read_more : (now next read unread bytes : List ℕ) → now ++ next ≡ read ++ (unread ++ bytes) → now ++ next ≡ (read ++ unread) ++ bytes
read_more now next read unread bytes is = is ∙ sym (append_assoc read unread bytes)

-- bytes to the mail server
pub read_none : (now read unread : List ℕ) → now ++ [] ≡ read ++ [] → now ++ unread ≡ (read ++ unread) ++ []
read_none now read unread is =
    ap (λ (x : List ℕ). x ++ unread) (sym (append-nil now) ∙ is ∙ append-nil read) ∙ sym (append-nil (read ++ unread))

-- ---- the lines one after the other

-- one line more was read
pub line_read : (before after line rest all whole : List ℕ) → after ≡ before ++ line → all ≡ line ++ rest → before ++ all ≡ whole
    → after ++ rest ≡ whole
line_read before after line rest all whole read is so_far =
    ap (λ (x : List ℕ). x ++ rest) read ∙ append_assoc before line rest
    ∙ ap (λ (x : List ℕ). before ++ x) (sym is) ∙ so_far
