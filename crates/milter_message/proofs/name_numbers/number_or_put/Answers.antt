use Rattle.std.proofs.lemmas.Map.Text.{btree_map_updates_str}
use Rattle.milter_message.proofs.NameNumbering.{put_back}
use Rattle.milter_message.proofs.name_numbers.number_or_put.Goals as goal

pub returns-in-None-clause-put : goal.returns-in-None-clause-put
returns-in-None-clause-put c = λ text. btree_map_updates_str c.args.name.now c.args.numbers.now c.insert.new.self _
    c.in_ok-insert.ensures.updates text

pub returns-in_ok-insert-in-Some-clause-put : goal.returns-in_ok-insert-in-Some-clause-put
returns-in_ok-insert-in-Some-clause-put c = put_back c.args.name.now c.args.new c.in-Some.old c.args.numbers.now
    c.insert.new.self c.insert-in-Some.new.self
    (λ text. btree_map_updates_str c.args.name.now c.args.numbers.now c.insert.new.self _
    c.in_ok-insert.ensures.updates text)
    (λ text. btree_map_updates_str c.args.name.now c.insert.new.self c.insert-in-Some.new.self _
    c.in_ok-insert-in-Some.ensures.updates text)
