-- Lines that are parsed as messages: where each part ends, and that they are parsed in one way.
use Rattle.std.proofs.Common.{◌≡◌, ◌≢◌, ℕ, ◌<◌, false, List, [], ◌∷◌, ◌++◌, length, All, codes, Option, Result, Ok, Err}
use Rattle.std.proofs.Common.{IfOk, IsOk, refl, sym, ap, subst, ◌∙◌, append_assoc, append-nil, length-append, arith}
use Rattle.std.specs.Result.{MatchResult}
use Rattle.std.specs.Str.{bytes_eq}
use Rattle.std.proofs.lemmas.Bool.{false≢true}
use Rattle.std.proofs.lemmas.List.Elements.{All-append, All-cons, All-nil, All-head, All-tail}
use Rattle.milter_text.specs.declared.word.Word.{Word}
use Rattle.milter_text.specs.Words.{HasWords}
use Rattle.milter_message.specs.MailObject.{MailObject}
use Rattle.milter_mail_file.specs.declared.session_fault.SessionFault.{SessionFault}
use Rattle.milter_mail_file.specs.declared.session_fault.SessionFault.TheVariants.{NoMemory}
use Rattle.milter_text.specs.WordValues.{begins}
use Rattle.milter_mail_file.specs.LineGroups.{EndsBefore}
use Rattle.milter_mail_file.specs.LineValues.{end_line, header_of, chunk_of}
use Rattle.milter_mail_file.specs.MessageLines.{BeginWithMessage, BeginWithParts}
use Rattle.milter_mail_file.specs.Openings.{header_begins, chunk_begins}
use Rattle.milter_mail_file.specs.SessionFile.{AllHaveValues, ParsesAsMessage, ParsesAsMessageList}
use Rattle.milter_text.proofs.FirstWord.{begins_other}
use Rattle.milter_mail_file.proofs.LineRuns.{Opens}

-- ---- where the lines with a keyword end

ends_before_others : {X : Type 0} (text other : List ℕ) (value_of : List Word → Option X) (lines rest : List (List ℕ)) (xs : List X)
    → Opens other value_of → bytes_eq other text ≡ false → AllHaveValues value_of lines xs → EndsBefore text rest → EndsBefore text (lines ++ rest)
ends_before_others text other value_of [] rest xs opens differ h ends = ends
ends_before_others text other value_of (line ∷ lines) rest [] opens differ h ends = absurd h
ends_before_others text other value_of (line ∷ lines) rest (x ∷ xs) opens differ h ends =
    (h.0.words, h.0.has_words, begins_other text other h.0.words differ (opens h.0.words x h.0.value))

ends_before_last : (text last : List ℕ) (rest : List (List ℕ)) → begins text end_line ≡ false → HasWords last end_line → EndsBefore text (last ∷ rest)
ends_before_last text last rest e h = (end_line, h, e)

pub ends_texts : (last : List ℕ) (rest : List (List ℕ)) → HasWords last end_line → EndsBefore (codes "body") (last ∷ rest)
ends_texts last rest h = ends_before_last (codes "body") last rest refl h

pub ends_headers : (lines : List (List ℕ)) (last : List ℕ) (rest : List (List ℕ)) (m : MailObject) (parts : BeginWithParts lines m (last ∷ rest)) → HasWords last end_line
    → EndsBefore (codes "header") (parts.texts ++ last ∷ rest)
ends_headers lines last rest m parts h =
    ends_before_others (codes "header") (codes "body") chunk_of parts.texts (last ∷ rest) parts.chunks chunk_begins refl parts.texts_are (ends_before_last (codes "header") last rest refl h)

pub ends_recipients : (lines : List (List ℕ)) (last : List ℕ) (rest : List (List ℕ)) (m : MailObject) (parts : BeginWithParts lines m (last ∷ rest)) → HasWords last end_line
    → EndsBefore (codes "recipient") (parts.headers ++ (parts.texts ++ last ∷ rest))
ends_recipients lines last rest m parts h =
    let last_ends = ends_before_last (codes "recipient") last rest refl h in
    let texts = ends_before_others (codes "recipient") (codes "body") chunk_of parts.texts (last ∷ rest) parts.chunks chunk_begins refl parts.texts_are last_ends in
    ends_before_others (codes "recipient") (codes "header") header_of parts.headers (parts.texts ++ last ∷ rest) m.headers header_begins refl parts.headers_are texts

-- ---- the parts of a message, and its last line

regroup : (recipients headers texts rest : List (List ℕ)) (last : List ℕ) → (recipients ++ (headers ++ (texts ++ last ∷ []))) ++ rest ≡ recipients ++ (headers ++ (texts ++ last ∷ rest))
regroup recipients headers texts rest last = simp append_assoc

pub parts_of_message : (lines prefix rest : List (List ℕ)) (m : MailObject) → lines ≡ prefix ++ rest → (parses : ParsesAsMessage prefix m) → BeginWithParts lines m (parses.last ∷ rest)
parts_of_message lines prefix rest m e parses =
    record {
      first = parses.first;
      sender = parses.sender;
      recipients = parses.recipients;
      headers = parses.headers;
      texts = parses.texts;
      in_order = e ∙ ap (λ l. l ++ rest) parses.in_order ∙ ap (λ l. parses.first ∷ parses.sender ∷ l) (regroup parses.recipients parses.headers parses.texts rest parses.last);
      chunks = parses.chunks;
      first_is = parses.first_is;
      sender_is = parses.sender_is;
      recipients_are = parses.recipients_are;
      headers_are = parses.headers_are;
      texts_are = parses.texts_are;
      body_is = parses.body_is;
    }

pub message_of_parts : (lines left rest : List (List ℕ)) (last : List ℕ) (m : MailObject) → BeginWithParts lines m left → left ≡ last ∷ rest → HasWords last end_line → BeginWithMessage lines m rest
message_of_parts lines left rest last m parts e h =
    record {
      prefix = parts.first ∷ parts.sender ∷ (parts.recipients ++ (parts.headers ++ (parts.texts ++ last ∷ [])));
      in_order =
          parts.in_order
          ∙ ap (λ l. parts.first ∷ parts.sender ∷ (parts.recipients ++ (parts.headers ++ (parts.texts ++ l)))) e
          ∙ ap (λ l. parts.first ∷ parts.sender ∷ l) (sym (regroup parts.recipients parts.headers parts.texts rest last));
      parses = record {
        first = parts.first;
        sender = parts.sender;
        recipients = parts.recipients;
        headers = parts.headers;
        texts = parts.texts;
        last = last;
        in_order = refl;
        chunks = parts.chunks;
        first_is = parts.first_is;
        sender_is = parts.sender_is;
        recipients_are = parts.recipients_are;
        headers_are = parts.headers_are;
        texts_are = parts.texts_are;
        body_is = parts.body_is;
        last_is = h;
      };
    }

pub message-shorter : (lines rest : List (List ℕ)) (m : MailObject) → BeginWithMessage lines m rest → length rest < length lines
message-shorter lines rest m h =
    omega (arith, ap length h.in_order, length-append h.prefix rest, ap length h.parses.in_order)

-- a message that is admitted is the one that was read
pub admitted : (Sendable : MailObject → Type 0) (lines rest : List (List ℕ)) (message : MailObject) (result : Result MailObject SessionFault) → BeginWithMessage lines message rest
    → IfOk result (λ m. (m ≡ message) × Sendable m) → IfOk result (λ m. BeginWithMessage lines m rest × Sendable m)
admitted Sendable lines rest message (Ok m) begun h = (subst (λ x. BeginWithMessage lines x rest) (sym h.0) begun, h.1)
admitted Sendable lines rest message (Err e) begun h = tt

pub admitted_only : (Sendable : MailObject → Type 0) (after rest : List (List ℕ)) (message m : MailObject) (result : Result MailObject SessionFault) → message ≡ m → after ≡ rest → Sendable m
    → IfOk result (λ x. (x ≡ message) × Sendable x) → (Sendable message → IsOk result) → MatchResult result (λ x. (x ≡ m) × (after ≡ rest)) (λ e. e ≡ NoMemory)
admitted_only Sendable after rest message m (Ok x) same left sendable h ok = (h.0 ∙ same, left)
admitted_only Sendable after rest message m (Err e) same left sendable h ok = absurd (false≢true (ok (subst Sendable (sym same) sendable)))

-- ---- messages one after the other

-- the lines before those that are left are parsed as the messages so far, and in no other way
pub record MessagesSoFar (Sendable : MailObject → Type 0) (lines : List (List ℕ)) (so_far : List MailObject) (left : List (List ℕ)) : Type 0 where
  pub sendable : All Sendable so_far
  pub found : (messages : List MailObject) → ParsesAsMessageList left messages → ParsesAsMessageList lines (so_far ++ messages)
  pub only : (messages : List MailObject) → ParsesAsMessageList lines messages → All Sendable messages
      → (others : List MailObject) × (messages ≡ so_far ++ others) × ParsesAsMessageList left others × All Sendable others

pub messages_none : (Sendable : MailObject → Type 0) (lines : List (List ℕ)) → MessagesSoFar Sendable lines [] lines
messages_none Sendable lines = record { sendable = All-nil Sendable; found = λ messages h. h; only = λ messages h fit. (messages, refl, h, fit) }

-- where lines are left, so is a message
pub record NextMessage (Sendable : MailObject → Type 0) (left : List (List ℕ)) (messages : List MailObject) : Type 0 where
  pub m : MailObject
  pub others : List MailObject
  pub prefix : List (List ℕ)
  pub rest : List (List ℕ)
  pub messages_are : messages ≡ m ∷ others
  pub in_order : left ≡ prefix ++ rest
  pub parses : ParsesAsMessage prefix m
  pub sendable : Sendable m
  pub others_parse : ParsesAsMessageList rest others
  pub others_sendable : All Sendable others

pub next_message : (Sendable : MailObject → Type 0) (left : List (List ℕ)) (messages : List MailObject) → left ≢ [] → ParsesAsMessageList left messages → All Sendable messages
    → NextMessage Sendable left messages
next_message Sendable left [] some h fit = absurd (some h)
next_message Sendable left (m ∷ messages) some h fit =
    record {
      m = m;
      others = messages;
      prefix = h.0;
      rest = h.1;
      messages_are = refl;
      in_order = h.2;
      parses = h.3;
      sendable = All-head Sendable m messages fit;
      others_parse = h.4;
      others_sendable = All-tail Sendable m messages fit;
    }

none_left : (left : List (List ℕ)) (messages : List MailObject) → left ≡ [] → ParsesAsMessageList left messages → messages ≡ []
none_left left [] e h = refl
none_left left (m ∷ messages) e h =
    let order : left ≡ h.0 ++ h.1 = h.2 in
    absurd (omega (arith, ap length order, ap length e, length-append h.0 h.1, ap length h.3.in_order))

pub messages_all : (Sendable : MailObject → Type 0) (lines : List (List ℕ)) (so_far : List MailObject) (left : List (List ℕ)) → MessagesSoFar Sendable lines so_far left → left ≡ []
    → ParsesAsMessageList lines so_far
messages_all Sendable lines so_far left h e = subst (ParsesAsMessageList lines) (append-nil so_far) (h.found [] e)

pub messages_only : (Sendable : MailObject → Type 0) (lines : List (List ℕ)) (so_far : List MailObject) (left : List (List ℕ)) (messages : List MailObject)
    → MessagesSoFar Sendable lines so_far left → left ≡ [] → ParsesAsMessageList lines messages → All Sendable messages → so_far ≡ messages
messages_only Sendable lines so_far left messages h e parses fit =
    let o = h.only messages parses fit in
    sym (o.1 ∙ ap (λ l. so_far ++ l) (none_left left o.0 e o.2) ∙ append-nil so_far)

pub messages_more : (Sendable : MailObject → Type 0) (lines : List (List ℕ)) (so_far : List MailObject) (left : List (List ℕ)) (m : MailObject) (rest : List (List ℕ))
    → MessagesSoFar Sendable lines so_far left → left ≢ [] → BeginWithMessage left m rest → Sendable m
    → ((prefix others : List (List ℕ)) (other : MailObject) → left ≡ prefix ++ others → ParsesAsMessage prefix other → Sendable other → (m ≡ other) × (rest ≡ others))
    → MessagesSoFar Sendable lines (so_far ++ m ∷ []) rest
messages_more Sendable lines so_far left m rest h some begun sendable one =
    record {
      sendable = All-append Sendable so_far (m ∷ []) h.sendable (All-cons Sendable m [] sendable (All-nil Sendable));
      found = λ messages k. subst (ParsesAsMessageList lines) (sym (append_assoc so_far (m ∷ []) messages)) (h.found (m ∷ messages) (begun.prefix, rest, begun.in_order, begun.parses, k));
      only = λ messages k fit.
          let o = h.only messages k fit in
          let n = next_message Sendable left o.0 some o.2 o.3 in
          let s = one n.prefix n.rest n.m n.in_order n.parses n.sendable in
          let first : o.0 ≡ m ∷ n.others = n.messages_are ∙ ap (λ x. x ∷ n.others) (sym s.0) in
          let whole : messages ≡ (so_far ++ m ∷ []) ++ n.others = o.1 ∙ ap (λ l. so_far ++ l) first ∙ sym (append_assoc so_far (m ∷ []) n.others) in
          (n.others, whole, subst (λ l. ParsesAsMessageList l n.others) (sym s.1) n.others_parse, n.others_sendable);
    }
