use Rattle.std.proofs.Common.{◌≡◌, ◌∷◌, ◌++◌, sym, ◌∙◌}
use Rattle.std.proofs.lemmas.Result.{err_from_is_err_and}
use Rattle.milter_mail_file.proofs.MessageRuns.{ends_headers, ends_recipients, ends_texts}
use Rattle.milter_mail_file.proofs.session_messages.read_parts.Goals as goal

pub returns-in_err-recipients-clause-only : goal.returns-in_err-recipients-clause-only
returns-in_err-recipients-clause-only c = λ m last rest parts end whole whole_fields.
    let lines = c.args.lines.now.lines in
    let headers = parts.headers ++ (parts.texts ++ last ∷ rest) in
    let recipients = parts.recipients ++ headers in
    let first = c.in_ok-read_keyword.ensures.only parts.first (parts.sender ∷ recipients) parts.in_order parts.first_is in
    let sender = c.in_ok-sender.ensures.only parts.sender recipients m.sender first parts.sender_is whole.sender in
    let p = err_from_is_err_and c.from_residual-in_err-recipients.result c.from_residual-in_err-recipients.ensures.1 in
    rw (p.1, p.2) (c.in_err-recipients.ensures.only parts.recipients headers m.recipients sender.1 parts.recipients_are whole.recipients (ends_recipients lines last rest m parts end))

pub returns-in_err-headers-clause-only : goal.returns-in_err-headers-clause-only
returns-in_err-headers-clause-only c = λ m last rest parts end whole whole_fields.
    let lines = c.args.lines.now.lines in
    let texts = parts.texts ++ last ∷ rest in
    let headers = parts.headers ++ texts in
    let recipients = parts.recipients ++ headers in
    let first = c.in_ok-read_keyword.ensures.only parts.first (parts.sender ∷ recipients) parts.in_order parts.first_is in
    let sender = c.in_ok-sender.ensures.only parts.sender recipients m.sender first parts.sender_is whole.sender in
    let r = c.in_ok-recipients.ensures.only parts.recipients headers m.recipients sender.1 parts.recipients_are whole.recipients (ends_recipients lines last rest m parts end) in
    let p = err_from_is_err_and c.from_residual-in_err-headers.result c.from_residual-in_err-headers.ensures.1 in
    rw (p.1, p.2) (c.in_err-headers.ensures.only parts.headers texts m.headers r.1 parts.headers_are whole_fields (ends_headers lines last rest m parts end))

pub returns-in_err-body-clause-only : goal.returns-in_err-body-clause-only
returns-in_err-body-clause-only c = λ m last rest parts end whole whole_fields.
    let lines = c.args.lines.now.lines in
    let texts = parts.texts ++ last ∷ rest in
    let headers = parts.headers ++ texts in
    let recipients = parts.recipients ++ headers in
    let first = c.in_ok-read_keyword.ensures.only parts.first (parts.sender ∷ recipients) parts.in_order parts.first_is in
    let sender = c.in_ok-sender.ensures.only parts.sender recipients m.sender first parts.sender_is whole.sender in
    let r = c.in_ok-recipients.ensures.only parts.recipients headers m.recipients sender.1 parts.recipients_are whole.recipients (ends_recipients lines last rest m parts end) in
    let h = c.in_ok-headers.ensures.only parts.headers texts m.headers r.1 parts.headers_are whole_fields (ends_headers lines last rest m parts end) in
    let p = err_from_is_err_and c.from_residual-in_err-body.result c.from_residual-in_err-body.ensures.1 in
    rw (p.1, p.2) (c.in_err-body.ensures.only parts.texts (last ∷ rest) parts.chunks h.1 parts.texts_are tt (ends_texts last rest end))

pub returns-clause-only : goal.returns-clause-only
returns-clause-only c = λ m last rest parts end whole whole_fields.
    let lines = c.args.lines.now.lines in
    let texts = parts.texts ++ last ∷ rest in
    let headers = parts.headers ++ texts in
    let recipients = parts.recipients ++ headers in
    let first = c.in_ok-read_keyword.ensures.only parts.first (parts.sender ∷ recipients) parts.in_order parts.first_is in
    let sender = c.in_ok-sender.ensures.only parts.sender recipients m.sender first parts.sender_is whole.sender in
    let r = c.in_ok-recipients.ensures.only parts.recipients headers m.recipients sender.1 parts.recipients_are whole.recipients (ends_recipients lines last rest m parts end) in
    let h = c.in_ok-headers.ensures.only parts.headers texts m.headers r.1 parts.headers_are whole_fields (ends_headers lines last rest m parts end) in
    let b = c.in_ok-body.ensures.only parts.texts (last ∷ rest) parts.chunks h.1 parts.texts_are tt (ends_texts last rest end) in
    let body : c.in_ok-body.body.bytes.items ≡ m.body = b.0 ∙ sym parts.body_is in
    (c.from_parts.ensures ∙ λ i. record { sender = sender.0 i; recipients = r.0.0 i; headers = h.0.0 i; body = body i }, b.1)
