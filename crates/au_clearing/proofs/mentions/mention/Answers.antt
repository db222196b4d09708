use Rattle.std.proofs.Common.{Some, subst, ◌∙◌}
use Rattle.std.proofs.lemmas.Result.{on_ok_weaker}
use Rattle.au_clearing.specs.declared.touches.Touches.{Touches}
use Rattle.au_clearing.specs.Touches.{where_named}
use Rattle.au_clearing.specs.Deals.{by_touch, Meets}
use Rattle.au_clearing.specs.Tables.{Changes}
use Rattle.au_clearing.proofs.MentionLemmas.{mentioned}
use Rattle.au_clearing.proofs.mentions.mention.Goals as goal

pub returns : goal.returns
returns g c =
    let new : Touches = record { owned = c.both.result; free = c.both-2.result } in
    on_ok_weaker c.put.result
    (λ put.
    subst
    (λ n. Meets c.args.table.now c.put.new.self (λ x free. where_named x n (by_touch free c.args.more)))
    c.bytes_of-bytes.ensures.bytes
    (mentioned c.args.table.now c.put.new.self c.bytes_of-bytes.result.now c.touches_at-old.result c.args.more
    new c.touches_at-old.ensures c.both.ensures c.both-2.ensures
    (subst (λ n. Changes c.args.table.now c.put.new.self n (Some new)) c.in_ok-key.ensures.items put)))
    c.put.ensures
