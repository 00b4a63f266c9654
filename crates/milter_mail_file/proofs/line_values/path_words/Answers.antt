use Rattle.std.proofs.Common.{refl, sym}
use Rattle.milter_mail_file.proofs.Paths.{path_of_words}
use Rattle.milter_mail_file.proofs.line_values.path_words.Goals as goal
use Rattle.milter_mail_file.proofs.line_values.path_words.Goals.{then-not-is_keyword-via-then-not-is_keyword}
use Rattle.milter_mail_file.proofs.line_values.path_words.Goals.{then-not-is_keyword-via-else-not-is_keyword+then-not-address}
use Rattle.milter_mail_file.proofs.line_values.path_words.Goals.{then-not-is_keyword-via-else-not-is_keyword+else-not-address+then-not-are_quoted}

pub returns-then-not-is_keyword : goal.returns-then-not-is_keyword
returns-then-not-is_keyword c =
    let value = path_of_words c.args.keyword.now c.args.words.now c.first-item.result c.address-item.result c.in-len2-up.len_at_least c.first-item.is c.address-item.is in
    elim c.then-not-is_keyword.branch [
      | then-not-is_keyword-via-then-not-is_keyword w ↦ rw (value, sym c.is_keyword.ensures, w.if-not-is_keyword.true) refl
      | then-not-is_keyword-via-else-not-is_keyword+then-not-address w ↦ rw (value, sym c.is_keyword.ensures, w.if-not-is_keyword.false, w.if-not-address.true) refl
      | then-not-is_keyword-via-else-not-is_keyword+else-not-address+then-not-are_quoted w ↦
          rw (value, sym c.is_keyword.ensures, w.if-not-is_keyword.false, w.if-not-address.false, sym w.are_quoted.ensures, w.if-not-are_quoted.true) refl
    ]

pub returns : goal.returns
returns c =
    let value = path_of_words c.args.keyword.now c.args.words.now c.first-item.result c.address-item.result c.in-len2-up.len_at_least c.first-item.is c.address-item.is in
    rw (value, sym c.is_keyword.ensures, c.if-not-is_keyword.false, c.if-not-address.false, sym c.are_quoted.ensures, c.if-not-are_quoted.false) refl
