-- A declaration of a parsed tree is read plainly as it is.
use Rattle.std.proofs.Common.{◌≡◌, List, [], ◌∷◌, ap}
use Rattle.std.specs.Prelude.{None}
use Rattle.au_noting_programs.proofs.PlainLemmas.{module_kept}
use Rattle.au_syntax.specs.contracts.parsed.ParsedPhase.TheImpl.{ghosts as parsed}
use Rattle.au_syntax.specs.declared.modules.Part.TheVariants.{Body}
use Rattle.au_syntax.specs.Plain.{PlainDeclaration, PlainModule, plain_declaration}

-- the first of some declarations, or this one
first_or : PlainDeclaration → List PlainDeclaration → PlainDeclaration
first_or d [] = d
first_or d (x ∷ xs) = x

-- a file with this declaration alone
alone : PlainDeclaration → PlainModule
alone d = record {
  imports = [];
  at = record { file = 0; line = 0; column = 0 };
  part = Body;
  name = [];
  pragma = None;
  declarations = d ∷ [];
}

pub declaration_kept : (d : PlainDeclaration) → plain_declaration parsed.name_bytes d ≡ d
unfolding first_or alone
declaration_kept d = ap (λ (m : PlainModule). first_or d m.declarations) (module_kept (alone d))
