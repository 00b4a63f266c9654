-- What inputs come to, one after the other: the state after them, and the replies to them.
use Rattle.std.specs.Prelude.{List, [], ◌∷◌, ◌++◌}
use Rattle.milter_wire.specs.declared.reply.Reply.{Reply}

-- what one input comes to, or some in a row
pub record Step (S : Type 0) : Type 0 where
  pub after : S
  pub replies : List Reply

-- nothing is replied
abbrev pub silent : {S : Type 0} → S → Step S
silent after = record { after = after; replies = [] }

-- one and then another, place by place
abbrev pub joined : {S : Type 0} → Step S → Step S → Step S
joined first second = record { after = second.after; replies = first.replies ++ second.replies }

-- all inputs in order
abbrev pub steps : {S I : Type 0} → (S → I → Step S) → S → List I → Step S
steps step s [] = silent s
steps step s (input ∷ more) = let first = step s input in joined first (steps step first.after more)
