-- The tokens are those of the cut, and what they come to is what the file comes to.
use Rattle.std.proofs.Common.{[], subst, sym}
use Rattle.std.proofs.lemmas.Result.{err_from_is_err_and}
use Rattle.au_lexer.specs.Cut.{Cut}
use Rattle.au_outcomes.proofs.ComesLemmas.{halts_from, halts_with}
use Rattle.au_outcomes.proofs.LaidLemmas.{tree_read}
use Rattle.au_outcomes.proofs.layouts.lay_out_file.Goals as goal

pub returns-in_err-has_tree-clause-comes : goal.returns-in_err-has_tree-clause-comes
returns-in_err-has_tree-clause-comes c =
    let p = err_from_is_err_and c.from_residual-in_err-has_tree.result c.from_residual-in_err-has_tree.ensures.1 in
    rw (p.1, p.2)
    (halts_with c.in_err-has_tree.field-0.0 _ _ _ _
    (λ x h. halts_from c.args.file c.args.bytes.now c.in_ok-tokens.tokens.items c.as_slice-list.result.now
    c.after-end.result x c.in_ok-tokens.ensures.cut c.in_ok-tokens.ensures.within c.as_slice-list.ensures.value
    (c.after-end.ensures.place c.args.file [] c.start.ensures) h)
    c.in_err-has_tree.ensures.comes)

pub lay_out-requires : goal.lay_out-requires
lay_out-requires c =
    subst (λ ts. Cut c.args.file c.args.bytes.now ts) (sym c.as_slice-list.ensures.value) c.in_ok-tokens.ensures.cut

pub returns-clause-comes : goal.returns-clause-comes
returns-clause-comes c = (
  tree_read c.args.file c.args.bytes.now c.in_ok-tokens.tokens.items c.as_slice-list.result.now
      c.in_ok-tokens.ensures.cut c.in_ok-tokens.ensures.within c.as_slice-list.ensures.value
      c.in_ok-has_tree.ensures.comes,
  c.in_ok-text.ensures,
)
