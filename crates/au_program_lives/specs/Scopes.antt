-- What written types are judged by at a place of a function.
use Rattle.std.specs.Prelude.{List, ◌∷◌, drop, Option, None, Some}
use Rattle.au_judged_types.specs.Judging.{judged}
use Rattle.au_judged_types.specs.Reasons.{Outcome}
use Rattle.au_program_lives.specs.declared.scopes.TypeScope as code
use Rattle.au_syntax.specs.Plain.{Bytes}
use Rattle.au_syntax.specs.Types.{WrittenType}
use Rattle.au_types.specs.declared.headings.Head.{Head}
use Rattle.au_types.specs.declared.parameters.Parameter.{Parameter}
use Rattle.au_types.specs.declared.types.DeclAt.{DeclAt}
use Rattle.au_types.specs.Types.{Meaning}

-- The regions of the borrow statements that are open, the innermost first; the type parameters; the names of
-- types and classes that are visible; and the rows of the declared types of the program.
pub record TypeScope : Type 0 where
  pub regions : List Bytes
  pub params : List Parameter
  pub visible : List (Bytes × DeclAt)
  pub heads : List (DeclAt × Head)

-- what a written type is judged to mean there
abbrev pub meant : TypeScope → WrittenType → Outcome Meaning
meant sc t = judged sc.regions sc.params sc.visible sc.heads t

-- the same with one more region, the innermost
abbrev pub opened_in : Bytes → TypeScope → TypeScope
opened_in region sc = record sc { regions = region ∷ sc.regions }

-- the same with a region more, where there is one
abbrev pub opened_by : Option Bytes → TypeScope → TypeScope
opened_by None sc = sc
opened_by (Some region) sc = opened_in region sc

-- the same without the innermost region
abbrev pub closed_in : TypeScope → TypeScope
closed_in sc = record sc { regions = drop 1 sc.regions }

-- what the code's scope says
abbrev pub scope_said : code.TypeScope → TypeScope
scope_said sc = record {
  regions = sc.regions.items;
  params = sc.params.now;
  visible = sc.names.now;
  heads = sc.heads.now;
}
