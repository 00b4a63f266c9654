-- Edits one after the other, and the replies that ask for them.
use Rattle.std.proofs.Common.{◌≡◌, ◌≢◌, Bool, List, [], ◌∷◌, ◌++◌, ℕ, Option, Some, None, Ok, refl, ap, ◌∙◌}
use Rattle.std.specs.List.{concat, filter_map, last_or}
use Rattle.std.proofs.lemmas.List.Elements.{filter_map-append}
use Rattle.std.proofs.lemmas.List.Folds.{concat-append}
use Rattle.milter_fields.specs.declared.header.Header.{Header}
use Rattle.milter_fields.specs.declared.path.Path.{Path}
use Rattle.milter_message.specs.declared.edit.Edit.{Edit}
use Rattle.milter_message.specs.declared.edit.Edit.TheVariants.{AddHeader, InsertHeader, ChangeHeader, AddRcpt, AddRcptPar, DelRcpt, ChangeFrom, ReplaceBody, Quarantine, Progress}
use Rattle.milter_message.specs.EditedMessage.{body_of, edit_headers, edit_recipients, headers_after, new_chunk, new_reason, new_sender, or_as_it_was, recipients_after}
use Rattle.milter_message.specs.EditReplies.{edit_of, reply_of}

pub headers_in_turn : (leading_space : Bool) (headers : List Header) (first second : List Edit) → headers_after leading_space headers (first ++ second) ≡ headers_after leading_space (headers_after leading_space headers first) second
headers_in_turn leading_space headers [] second = refl
headers_in_turn leading_space headers (edit ∷ first) second = headers_in_turn leading_space (edit_headers leading_space headers edit) first second

pub recipients_in_turn : (recipients : List Path) (first second : List Edit) → recipients_after recipients (first ++ second) ≡ recipients_after (recipients_after recipients first) second
recipients_in_turn recipients [] second = refl
recipients_in_turn recipients (edit ∷ first) second = recipients_in_turn (edit_recipients recipients edit) first second

pub asked_back : (edit : Edit) → edit_of (reply_of edit) ≡ Ok edit
asked_back (AddHeader header) = refl
asked_back (InsertHeader index header) = refl
asked_back (ChangeHeader index header) = refl
asked_back (AddRcpt address) = refl
asked_back (AddRcptPar address arguments) = refl
asked_back (DelRcpt address) = refl
asked_back (ChangeFrom address arguments) = refl
asked_back (ReplaceBody bytes) = refl
asked_back (Quarantine reason) = refl
asked_back Progress = refl

-- ---- what stands

pub last-append : {X : Type 0} (start : Option X) (xs ys : List X) → last_or start (xs ++ ys) ≡ last_or (last_or start xs) ys
last-append start [] ys = refl
last-append start (x ∷ xs) ys = last-append (Some x) xs ys

-- where there is a last one, it stands whatever there was before
last_stands : {X : Type 0} (old new x : X) (xs : List X) → or_as_it_was old (last_or (Some x) xs) ≡ or_as_it_was new (last_or (Some x) xs)
last_stands old new x [] = refl
last_stands old new x (y ∷ ys) = last_stands old new y ys

stands_in_turn : {X : Type 0} (old : X) (found : Option X) (xs : List X) → or_as_it_was old (last_or found xs) ≡ or_as_it_was (or_as_it_was old found) (last_or None xs)
stands_in_turn old found [] = refl
stands_in_turn old found (x ∷ xs) = last_stands old (or_as_it_was old found) x xs

pub sender_in_turn : (old : Path) (first second : List Edit) → or_as_it_was old (last_or None (filter_map new_sender (first ++ second))) ≡ or_as_it_was (or_as_it_was old (last_or None (filter_map new_sender first))) (last_or None (filter_map new_sender second))
sender_in_turn old first second =
    ap (λ senders. or_as_it_was old (last_or None senders)) (filter_map-append new_sender first second)
    ∙ ap (or_as_it_was old) (last-append None (filter_map new_sender first) (filter_map new_sender second))
    ∙ stands_in_turn old (last_or None (filter_map new_sender first)) (filter_map new_sender second)

body-append : (old : List ℕ) (xs ys : List (List ℕ)) → xs ≢ [] → body_of old (xs ++ ys) ≡ body_of old xs ++ concat ys
body-append old [] ys some = absurd (some refl)
body-append old (x ∷ xs) ys some = concat-append (x ∷ xs) ys

pub body_in_turn : (old : List ℕ) (first second : List Edit) → filter_map new_chunk first ≢ [] → body_of old (filter_map new_chunk (first ++ second)) ≡ body_of old (filter_map new_chunk first) ++ concat (filter_map new_chunk second)
body_in_turn old first second some =
    ap (body_of old) (filter_map-append new_chunk first second) ∙ body-append old (filter_map new_chunk first) (filter_map new_chunk second) some

pub last_reason : (edits : List Edit) (reason : List ℕ) → last_or None (filter_map new_reason (edits ++ Quarantine reason ∷ [])) ≡ Some reason
last_reason edits reason =
    ap (last_or None) (filter_map-append new_reason edits (Quarantine reason ∷ []))
    ∙ last-append None (filter_map new_reason edits) (reason ∷ [])
