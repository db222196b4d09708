-- The tokens are those of the cut, and what they come to is what the file comes to.
use Rattle.std.proofs.Common.{[], refl, subst}
use Rattle.std.proofs.lemmas.Result.{err_from_is_err_and}
use Rattle.au_syntax.specs.contracts.parsed.ParsedPhase.TheImpl.{ghosts as parsed}
use Rattle.au_syntax.specs.Files.{says}
use Rattle.au_syntax.specs.Words.{Spells}
use Rattle.au_outcomes.proofs.ComesLemmas.{halts_from, halts_with}
use Rattle.au_outcomes.proofs.reading.read_file.Goals as goal

pub returns-in_err-tree-clause-comes : goal.returns-in_err-tree-clause-comes
returns-in_err-tree-clause-comes c =
    let p = err_from_is_err_and c.from_residual-in_err-tree.result c.from_residual-in_err-tree.ensures.1 in
    rw (p.1, p.2)
    (halts_with c.in_err-tree.field-0.0 _ _ _ _
    (λ x h. halts_from c.args.file c.args.bytes.now c.in_ok-tokens.tokens.items c.as_slice.result.now
    c.after-end.result x c.in_ok-tokens.ensures.cut c.in_ok-tokens.ensures.within c.as_slice.ensures.value
    (c.after-end.ensures.place c.args.file [] c.start.ensures) h)
    c.in_err-tree.ensures.comes)

pub returns-clause-comes : goal.returns-clause-comes
returns-clause-comes c =
    let tokens = c.in_ok-tokens.tokens.items in
    let tree = says parsed c.in_ok-tree.tree.tree in (
      record { tokens = tokens; end = c.after-end.result; tree = tree },
      record {
        cut = c.in_ok-tokens.ensures.cut;
        within = c.in_ok-tokens.ensures.within;
        end = c.after-end.ensures.place c.args.file [] c.start.ensures;
        formed = c.in_ok-tree.tree.formed;
        spelled = subst (λ ts. Spells tree ts) c.as_slice.ensures.value c.in_ok-tree.ensures.comes;
        fits = c.in_ok-tree.tree.within;
      },
      refl,
    )
