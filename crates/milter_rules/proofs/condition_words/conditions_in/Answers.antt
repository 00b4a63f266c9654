use Rattle.std.proofs.Common.{sym, ◌∙◌}
use Rattle.milter_rules.proofs.ConditionRuns.{ReadOne, all_read, found_end, found_more, no_condition, no_end, only_more, shorter}
use Rattle.milter_rules.proofs.condition_words.conditions_in.Goals as goal

pub returns-in_default-2-clause-only : goal.returns-in_default-2-clause-only
returns-in_default-2-clause-only c =
    no_condition c.args.words.now c.loop-joint.is_first c.loop-joint.conditions.items c.loop-joint.rest.now c.in-Some.after.now
    c.in-Some.joint (sym (rw c.in-Some.is at c.joint_in.ensures)) (sym (rw c.in_default-2.is at c.in_ok-condition.ensures))
    c.loop-joint.invariant.only

pub loop-joint-smaller : goal.loop-joint-smaller
loop-joint-smaller c =
    shorter c.loop-joint.is_first c.loop-joint.rest.now c.in-Some.after.now c.in-Some-2.after.now c.in-Some.joint c.in-Some-2.condition
    (sym (rw c.in-Some.is at c.joint_in.ensures)) (sym (rw c.in-Some-2.is at c.in_ok-condition.ensures))

pub loop-joint-preserved : goal.loop-joint-preserved
loop-joint-preserved c =
    let one : ReadOne c.loop-joint.is_first c.loop-joint.rest.now c.in-Some.after.now c.in-Some-2.after.now c.in-Some-2.condition = record {
      joint = c.in-Some.joint;
      begun = sym (rw c.in-Some.is at c.joint_in.ensures);
      read = sym (rw c.in-Some-2.is at c.in_ok-condition.ensures);
    } in
    let pushed = c.in_ok-push.ensures.items in
    record {
      found = found_more c.args.words.now c.loop-joint.is_first c.loop-joint.conditions.items c.push.new.self.items c.loop-joint.rest.now
          c.in-Some.after.now c.in-Some-2.after.now c.in-Some-2.condition one pushed c.loop-joint.invariant.found;
      only = only_more c.args.words.now c.loop-joint.is_first c.loop-joint.conditions.items c.push.new.self.items c.loop-joint.rest.now
          c.in-Some.after.now c.in-Some-2.after.now c.in-Some-2.condition one pushed c.loop-joint.invariant.only;
    }

pub returns-in-Some-words_after-clause-found : goal.returns-in-Some-words_after-clause-found
returns-in-Some-words_after-clause-found c =
    let found = found_end c.args.words.now c.loop-joint.is_first c.loop-joint.conditions.items c.loop-joint.rest.now
    c.in-Some-words_after.action.now (sym (rw c.in-Some-words_after.is at c.words_after.ensures)) c.loop-joint.invariant.found in
    rw c.new.ensures found

pub returns-in-Some-words_after-clause-only : goal.returns-in-Some-words_after-clause-only
returns-in-Some-words_after-clause-only c = λ all other e limits.
    let read = all_read c.args.words.now c.loop-joint.is_first c.loop-joint.conditions.items c.loop-joint.rest.now
    c.in-Some-words_after.action.now (sym (rw c.in_default.is at c.joint_in.ensures))
    (sym (rw c.in-Some-words_after.is at c.words_after.ensures)) c.loop-joint.invariant.only all other e limits in
    (c.new.ensures ∙ read.0, read.1)

pub returns-clause-only : goal.returns-clause-only
returns-clause-only c =
    no_end c.args.words.now c.loop-joint.is_first c.loop-joint.conditions.items c.loop-joint.rest.now
    (sym (rw c.in_default.is at c.joint_in.ensures)) (sym (rw c.in-None.is at c.words_after.ensures))
    c.loop-joint.invariant.only
