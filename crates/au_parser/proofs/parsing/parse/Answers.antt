use Rattle.std.proofs.Common.{◌≡◌, ◌-◌, length, refl, sym, ap, ◌∙◌, subst, arith}
use Rattle.au_syntax.specs.contracts.parsed.ParsedPhase.TheImpl.{ghosts as parsed}
use Rattle.au_syntax.specs.Files.{says}
use Rattle.au_syntax.specs.Words.{Spells}
use Rattle.au_read_expressions.specs.Bounds.{usual}
use Rattle.au_read_expressions.specs.declared.faults.Fault.TheVariants.{Syntax, Passed}
use Rattle.au_parser.specs.ModuleReading.{file_at}
use Rattle.au_parser.proofs.FileLaws.{stopped, tree_spelled, tree_formed, tree_within, tree_only}
use Rattle.au_parser.proofs.FileLaws.{limit_passed, none_within}
use Rattle.au_parser.proofs.Places.{limit_place, syntax_place}
use Rattle.au_parser.proofs.Certain.{passes_none}
use Rattle.au_parser.specs.Fronts.{IsFaultPlace}
use Rattle.au_parser.proofs.ReaderLaws.{file_sound, file_found}
use Rattle.au_parser.proofs.PlainTrees.{ParsedModule, is_noted}
use Rattle.au_parser.proofs.parsing.parse.Goals as goal

pub new-requires-clause-formed : goal.new-requires-clause-formed
new-requires-clause-formed c = tree_formed file_sound file_found c.args.tokens.now c.in-Ok.tree c.in-Ok.ensures

pub new-requires-clause-within : goal.new-requires-clause-within
new-requires-clause-within c = tree_within file_sound file_found c.args.tokens.now c.in-Ok.tree c.in-Ok.ensures

pub new-requires-clause-allowed : goal.new-requires-clause-allowed
new-requires-clause-allowed c = is_noted c.in-Ok.tree

pub returns-in-Ok-clause-tree : goal.returns-in-Ok-clause-tree
returns-in-Ok-clause-tree c =
    subst (λ (tree : ParsedModule). Spells (says parsed tree) c.args.tokens.now) (sym c.new.ensures)
    (tree_spelled file_sound file_found c.args.tokens.now c.in-Ok.tree c.in-Ok.ensures)

pub returns-in-Ok-clause-only : goal.returns-in-Ok-clause-only
returns-in-Ok-clause-only c = λ m good spelled small.
    ap (says parsed) c.new.ensures ∙ tree_only file_sound file_found c.args.tokens.now c.in-Ok.tree
    c.in-Ok.ensures m good spelled small

pub returns-in-Err-Fault-Passed-clause-limit : goal.returns-in-Err-Fault-Passed-clause-limit
returns-in-Err-Fault-Passed-clause-limit c = λ l is.
    let same : c.in-Err-Fault-Passed.limit ≡ l = cc in
    let read = stopped c.in-Err-Fault-Passed.field-0 c.in-Err-Fault-Passed.field-0-0
    (Passed l c.in-Err-Fault-Passed.field-0-0-1) (file_at usual c.args.tokens.now)
    c.in-Err-Fault-Passed.ensures c.in-Err-Fault-Passed.field-0-is
    (c.in-Err-Fault-Passed.field-0-0-is ∙ ap (λ x. Passed x c.in-Err-Fault-Passed.field-0-0-1) same) in (
      limit_place usual c.args.tokens.now l c.in-Err-Fault-Passed.field-0-0-1 read,
      limit_passed file_sound file_found c.args.tokens.now l c.in-Err-Fault-Passed.field-0-0-1 read,
    )

pub returns-in-Err-Fault-Passed-clause-only : goal.returns-in-Err-Fault-Passed-clause-only
returns-in-Err-Fault-Passed-clause-only c = λ m good spelled small.
    absurd
    (none_within file_sound file_found c.args.tokens.now c.in-Err-Fault-Passed.field-0-0
    (stopped c.in-Err-Fault-Passed.field-0 c.in-Err-Fault-Passed.field-0-0 c.in-Err-Fault-Passed.field-0-0
    (file_at usual c.args.tokens.now)
    c.in-Err-Fault-Passed.ensures c.in-Err-Fault-Passed.field-0-is refl) m good spelled small)

pub returns-in-Err-Fault-Syntax-clause-syntax : goal.returns-in-Err-Fault-Syntax-clause-syntax
returns-in-Err-Fault-Syntax-clause-syntax c = λ index is.
    let here : c.saturating_sub.result ≡ index = cc in
    let left = c.in-Err-Fault-Syntax.left in
    let read = stopped c.in-Err-Fault-Syntax.field-0 c.in-Err-Fault-Syntax.field-0-0
    (Syntax left) (file_at usual c.args.tokens.now)
    c.in-Err-Fault-Syntax.ensures c.in-Err-Fault-Syntax.field-0-is c.in-Err-Fault-Syntax.field-0-0-is in
    let place : length c.args.tokens.now - left ≡ index = omega (arith, here, c.saturating_sub.ensures) in (
      subst (IsFaultPlace c.args.tokens.now) place (syntax_place usual c.args.tokens.now left read),
      passes_none usual c.args.tokens.now left read,
    )

pub returns-in-Err-Fault-Syntax-clause-only : goal.returns-in-Err-Fault-Syntax-clause-only
returns-in-Err-Fault-Syntax-clause-only c = λ m good spelled small.
    absurd
    (none_within file_sound file_found c.args.tokens.now c.in-Err-Fault-Syntax.field-0-0
    (stopped c.in-Err-Fault-Syntax.field-0 c.in-Err-Fault-Syntax.field-0-0 c.in-Err-Fault-Syntax.field-0-0
    (file_at usual c.args.tokens.now)
    c.in-Err-Fault-Syntax.ensures c.in-Err-Fault-Syntax.field-0-is refl) m good spelled small)
