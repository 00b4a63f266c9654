use Rattle.std.proofs.Common.{refl, [], ◌∷◌, ◌++◌, append_assoc}
use Rattle.milter_mail.specs.HeldText.{line_of, text_of, texts_of}
use Rattle.milter_text.proofs.TextWriters.{Progress-fail, Progress-last, Progress-next, Progress-none}
use Rattle.milter_mail.proofs.message_lines.put_line.Goals as goal

pub returns-in_err-put : goal.returns-in_err-put
unfolding line_of
returns-in_err-put g c =
    Progress-fail _ _ _ c.args.keyword.now (text_of c.args.first.now ++ (texts_of c.args.others.now ++ 10 ∷ [])) Progress-none c.in_err-put.ensures c.from_residual.ensures.0 (simp append_assoc)

pub returns-in_err-put_text : goal.returns-in_err-put_text
unfolding line_of
returns-in_err-put_text g c =
    let step1 = Progress-next c.args.keyword.now (text_of c.args.first.now ++ (texts_of c.args.others.now ++ 10 ∷ [])) Progress-none c.in_ok-put.ensures (simp append_assoc) in
    Progress-fail _ _ _ (text_of c.args.first.now) (texts_of c.args.others.now ++ 10 ∷ []) step1 c.in_err-put_text.ensures c.from_residual-in_err-put_text.ensures.0 refl

pub returns-in_err-put_texts : goal.returns-in_err-put_texts
unfolding line_of
returns-in_err-put_texts g c =
    let step1 = Progress-next c.args.keyword.now (text_of c.args.first.now ++ (texts_of c.args.others.now ++ 10 ∷ [])) Progress-none c.in_ok-put.ensures (simp append_assoc) in
    let step2 = Progress-next (text_of c.args.first.now) (texts_of c.args.others.now ++ 10 ∷ []) step1 c.in_ok-put_text.ensures refl in
    Progress-fail _ _ _ (texts_of c.args.others.now) (10 ∷ []) step2 c.in_err-put_texts.ensures c.from_residual-in_err-put_texts.ensures.0 refl

pub returns : goal.returns
unfolding line_of
returns g c =
    let step1 = Progress-next c.args.keyword.now (text_of c.args.first.now ++ (texts_of c.args.others.now ++ 10 ∷ [])) Progress-none c.in_ok-put.ensures (simp append_assoc) in
    let step2 = Progress-next (text_of c.args.first.now) (texts_of c.args.others.now ++ 10 ∷ []) step1 c.in_ok-put_text.ensures refl in
    let step3 = Progress-next (texts_of c.args.others.now) (10 ∷ []) step2 c.in_ok-put_texts.ensures refl in
    Progress-last _ _ (10 ∷ []) step3 c.put-2.ensures refl
