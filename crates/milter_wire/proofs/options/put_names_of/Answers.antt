use Rattle.std.proofs.Common.{rules, ◌≡◌, ◌++◌, ℕ, List, ap, codes, sym, take, ◌∙◌}
use Rattle.milter_wire.proofs.NamesText.{extends_by, next_part, rows_all, rows_more, written_none_text, written_some, written_with, written_without}
use Rattle.milter_wire.proofs.options.put_names_of.Goals as goal
use Rattle.milter_wire.proofs.options.put_names_of.Goals.{then-has_bits_of+in_ok-put_name, else-has_bits_of}

pub loop-flag-preserved : goal.loop-flag-preserved
loop-flag-preserved g c =
    let i = c.loop-flag.flag-index in
    let flags = c.flags-flag-items.result.now in
    let table = g.F.Flags.table in
    let set = g.F.Flags.set_of c.args.set.now in
    let old = c.args.out.now.items in
    let item = c.flag-item.result in
    elim c.if-has_bits_of.branch [
      | then-has_bits_of+in_ok-put_name w ↦
          let name = w.name.result.now in
          let part : w.put_name.new.out.items ≡ c.loop-flag.out.items ++ next_part c.loop-flag.is_first name = w.in_ok-put_name.ensures.0 in
          let put = part ∙ ap (λ (l : List ℕ). c.loop-flag.out.items ++ next_part c.loop-flag.is_first l) w.name.ensures in (
            rw w.out-is (extends_by old c.loop-flag.out.items w.put_name.new.out.items (next_part c.loop-flag.is_first name) c.loop-flag.invariant.0 part),
            c.loop-flag.invariant.1,
            λ exact.
                let more = rows_more _ flags table i item (c.loop-flag.invariant.1 exact) c.loop-flag-test.true c.flag-item.is in
                let has = sym (c.has_bits_of.ensures exact) ∙ w.if-has_bits_of.true in
                rw (w.out-is, w.is_first-is, more) (written_with (take i table) _ set old c.loop-flag.out.items _ c.loop-flag.is_first has (c.loop-flag.invariant.2 exact) put),
          )
      | else-has_bits_of w ↦ (
        rw w.out-is c.loop-flag.invariant.0,
        c.loop-flag.invariant.1,
        λ exact.
            let more = rows_more _ flags table i item (c.loop-flag.invariant.1 exact) c.loop-flag-test.true c.flag-item.is in
            let other = sym (c.has_bits_of.ensures exact) ∙ w.if-has_bits_of.false in
            rw (w.out-is, w.is_first-is, more) (written_without (take i table) _ set old c.loop-flag.out.items c.loop-flag.is_first other (c.loop-flag.invariant.2 exact)),
      )
    ]

pub returns-in_ok-extend_from_slice : goal.returns-in_ok-extend_from_slice
returns-in_ok-extend_from_slice g c = λ exact.
    let rows = c.loop-flag.invariant.1 exact in
    let all = rows_all _ c.flags-flag-items.result.now g.F.Flags.table c.loop-flag.flag-index rows (search rules) in
    let written = rw all at (c.loop-flag.invariant.2 exact) in
    let put : c.extend_from_slice.new.self.items ≡ c.loop-flag.out.items ++ codes "none" = c.in_ok-extend_from_slice.ensures.items in (
      written_none_text g.F.Flags.table _ _ _ _ c.loop-flag.is_first c.if-is_first.true written put,
      extends_by c.args.out.now.items c.loop-flag.out.items c.extend_from_slice.new.self.items (codes "none") c.loop-flag.invariant.0 put,
    )

pub returns-else-is_first : goal.returns-else-is_first
returns-else-is_first g c = λ exact.
    let rows = c.loop-flag.invariant.1 exact in
    let all = rows_all _ c.flags-flag-items.result.now g.F.Flags.table c.loop-flag.flag-index rows (search rules) in
    let written = rw all at (c.loop-flag.invariant.2 exact) in
    (written_some g.F.Flags.table _ _ _ c.loop-flag.is_first c.if-is_first.false written, c.loop-flag.invariant.0)
