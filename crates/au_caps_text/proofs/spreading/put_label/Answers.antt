use Rattle.std.proofs.Common.{ℕ, ◌+◌, ◌<◌, ◌≤◌, List, length, sym, ◌∙◌, subst, arith}
use Rattle.std.proofs.lemmas.Bool.{both_ways}
use Rattle.au_graphs.specs.Marks.{IsMarked, is_marked}
use Rattle.au_caps_text.specs.Putting.{IsPut}
use Rattle.au_caps_text.proofs.PutLemmas.{Below, put_all, put_more, put_none, put_past}
use Rattle.au_caps_text.proofs.spreading.put_label.Goals as goal
use Rattle.au_caps_text.proofs.spreading.put_label.Goals.{then-is_marked+in_ok-add_edge, else-is_marked}

pub loop-node-init : goal.loop-node-init
loop-node-init c = put_none (IsMarked c.args.marks.now) c.args.label c.args.made.now

pub loop-node-preserved : goal.loop-node-preserved
loop-node-preserved c =
    let marks = c.args.marks.now in
    let label = c.args.label in
    let graph = c.args.made.now in
    let made = c.loop-node.made in
    let k = c.loop-node.node in
    let below : k < length graph = omega arith in
    let Put : List (List ℕ) → Type 0 = λ g. IsPut (Below (IsMarked marks) (k + 1)) label graph g in
    elim c.if-is_marked.branch [
      | then-is_marked+in_ok-add_edge w ↦ subst Put (sym (w.made-is ∙ w.in_ok-add_edge.ensures))
          (put_more (IsMarked marks) label graph k made c.loop-node.invariant below
          (sym c.is_marked.ensures.marked ∙ w.if-is_marked.true))
      | else-is_marked w ↦ subst Put (sym w.made-is)
          (put_past (IsMarked marks) label graph k made c.loop-node.invariant below
          (λ marked. both_ways (is_marked marks k) (sym c.is_marked.ensures.marked ∙ w.if-is_marked.false) marked))
    ]

pub returns : goal.returns
returns c =
    let past : length c.args.made.now ≤ c.loop-node.node = omega arith in
    put_all (IsMarked c.args.marks.now) c.args.label c.args.made.now c.loop-node.node c.loop-node.made past
    c.loop-node.invariant
