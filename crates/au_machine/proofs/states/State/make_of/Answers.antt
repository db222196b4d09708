use Rattle.std.proofs.Common.{ap, ◌∙◌, reverse, List, ℕ}
use Rattle.au_stores.specs.Stores.{world_of}
use Rattle.au_cells.specs.Cells.{low, lows}
use Rattle.au_effects.specs.Worlds.{bears, nothing}
use Rattle.au_machine.proofs.StateLemmas.{come_to}
use Rattle.au_machine.proofs.WorldLemmas.{makes_born}
use Rattle.au_machine.proofs.states.State.make_of.Goals as goal

pub returns-clause-is : goal.returns-clause-is
returns-clause-is c =
    let s = c.args.self.now in
    let back = reverse s.backs.items in
    let home = c.args.home.now in
    come_to c.push-2.result c.push-2.new.self _ _
    (makes_born s.function s.place s.operands s.borrows back s.world c.bear.new.self c.args.of c.args.tag
    c.in_ok-id.id home (lows c.args.fields.items) c.args.one.now (low c.in_ok-cell-2.cell)
    c.in_ok-cell-2.ensures c.in_ok-id.ensures.id
    (c.in_ok-id.ensures.world ∙ ap (λ (name : List ℕ). bears c.args.of name nothing
    (world_of s.world)) c.as_bytes.ensures.bytes)
    c.in_ok-id.ensures.frame c.if-not-one.false) c.push-2.ensures.is
