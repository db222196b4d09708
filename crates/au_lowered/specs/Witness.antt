-- A program that is good, and that exits.
use Rattle.std.specs.Prelude.{◌≡◌, ℕ, true, false, List, [], ◌∷◌, Option, Some, None, slice_get, codes}
use Rattle.au_type_texts.specs.Types as closed_type
use Rattle.au_type_texts.specs.Types.{ClosedType}
use Rattle.au_low.specs.declared.code.LowType.{LowType}
use Rattle.au_meaning.specs.Meanings.{mean}
use Rattle.au_meaning.specs.Samples.{Note, block, succeeds, exit_code}
use Rattle.au_meaning.specs.Views.{Function, View, Callee, makes}
use Rattle.au_meaning.specs.Worlds.{exit}
use Rattle.au_lowered.specs.FollowPrograms.{GoodProgram}

-- each type is told as one that isn't linear
abbrev pub plainly_told : ClosedType → LowType
plainly_told of = record { text = []; «module» = []; linear = false }

-- a call makes an exit code of success
abbrev pub exit_callee : Callee ℕ
exit_callee = record {
  parameters = [];
  act = makes (closed_type.named exit_code closed_type.no_types) 0 (codes "Austral.Pervasive");
}

-- a view in which each call makes an exit code of success
abbrev pub exit_view : View ℕ Note (Unit {0})
exit_view = record {
  type_of = λ note. None;
  is_free = λ note. true;
  callee = λ note c name. Some exit_callee;
  constant = λ note name. None;
  tag = λ of name. None;
  fields = λ of tag. None;
  is_linear = λ of. false;
}

-- `return ExitSuccess();`
abbrev pub exits : Function ℕ Note (Unit {0})
exits = record { view = exit_view; parameters = []; first = 0; body = block (succeeds ∷ []) }

-- It is good, and exits with success.
pub record SomeProgramIsGood : Type 0 where
  pub good : GoodProgram plainly_told (exits ∷ [])
  pub ends : (mean (λ i. slice_get (exits ∷ []) i) 0 [] 2).ending ≡ exit true
