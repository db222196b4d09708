-- A program that is good.
use Rattle.std.proofs.Common.{◌≡◌, ℕ, zero, suc, false, [], ◌∷◌, Option, Some, None, refl}
use Rattle.std.proofs.Common.{sym, ap, subst, ◌∙◌, slice_get, arith}
use Rattle.std.specs.Prelude.{option_map}
use Rattle.std.proofs.lemmas.Option.{slice_get-map}
use Rattle.au_type_texts.specs.Types.{ClosedType}
use Rattle.au_low.specs.declared.code.LowType.{LowType}
use Rattle.au_lowered.specs.Programs.{types_in, type_number}
use Rattle.au_meaning.specs.Meanings.{call_at}
use Rattle.au_meaning.specs.Samples.{Note}
use Rattle.au_meaning.specs.Ticks.{follows, ticked}
use Rattle.au_meaning.specs.Views.{Function, Callee}
use Rattle.au_lowered.specs.Premises.{GoodView, Once}
use Rattle.au_lowered.specs.FollowPrograms.{coding, GoodFunction, EntryTakes}
use Rattle.au_lowered.specs.Witness.{plainly_told, exit_callee, exit_view, exits, SomeProgramIsGood}

told_so : (o : Option ClosedType) (type : LowType) → option_map plainly_told o ≡ Some type → type.linear ≡ false
told_so None type e = absurd (grind arith)
told_so (Some of) type e = let is : plainly_told of ≡ type = cc in sym (ap (λ (t : LowType). t.linear) is)

view_is_good : GoodView (coding plainly_told (exits ∷ []) (λ n. n)) exit_view
view_is_good = record {
  constants = λ note name value e. absurd (grind arith);
  parameters = λ note c name one e.
      let is : exit_callee ≡ one = cc in subst (λ (x : Callee ℕ). Once x.parameters) is tt;
  linear = λ of type e.
      told_so (slice_get (types_in (exits ∷ [])) (type_number (types_in (exits ∷ [])) of)) type
      (sym (slice_get-map plainly_told (types_in (exits ∷ [])) (type_number (types_in (exits ∷ [])) of)) ∙ e);
}

function_is_good : GoodFunction plainly_told (exits ∷ []) (λ n. n) exits
function_is_good = record {
  returns = refl;
  tidy = (tt, refl, tt);
  whole = (tt, tt);
  homes = (tt, (tt, tt));
  view = view_is_good;
}

each_is_good : (i : ℕ) (f : Function ℕ Note (Unit {0})) → slice_get (exits ∷ []) i ≡ Some f
    → GoodFunction plainly_told (exits ∷ []) (λ n. n) f
each_is_good zero f e =
    let is : exits ≡ f = cc in subst (λ g. GoodFunction plainly_told (exits ∷ []) (λ n. n) g) is function_is_good
each_is_good (suc i) f e = absurd (grind arith)

pub some_program_is_good : SomeProgramIsGood
unfolding call_at follows ticked
some_program_is_good = record {
  good = record {
    slot = λ n. n;
    each = each_is_good;
    entry = λ f e. let is : exits ≡ f = cc in subst (λ (g : Function ℕ Note (Unit {0})). EntryTakes g.parameters) is tt;
  };
  ends = refl;
}
