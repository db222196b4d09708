-- The code of a closed program does what the noted program means that it is made of.
use Rattle.std.proofs.Common.{◌≡◌, ℕ, true, [], Some, None, pos, refl, sym, ap}
use Rattle.std.proofs.Common.{subst, ◌∙◌, true≢false}
use Rattle.std.specs.Prelude.{slice_get}
use Rattle.au_base.specs.declared.kinds.IntKind.TheVariants.{Nat8}
use Rattle.au_effects.specs.Values as values
use Rattle.au_type_texts.specs.Types as closed_type
use Rattle.au_closed_trees.specs.ClosedNotes.{Callee, ClosedNote}
use Rattle.au_closed_trees.specs.declared.notes.Literal.TheVariants as literals
use Rattle.au_closed_meanings.specs.Closed.{surroundings_of}
use Rattle.au_closed_meanings.specs.Generic.{generic_functions}
use Rattle.au_closed_meanings.proofs.KeptLemmas.{meaning_kept, what_is}
use Rattle.au_meaning.specs.Meanings.{mean}
use Rattle.au_meaning.specs.Views.{Function}
use Rattle.au_lowered.specs.FollowLaws.{Follows}
use Rattle.au_running.specs.Formed.{IsFormed}
use Rattle.au_running.specs.Followed.{functions_of, AreFollowed, DerivedProgramsFollow}
use Rattle.au_running.specs.Followed.{NoClosedViewIsGood}
use Rattle.au_running.proofs.AskedLemmas.{asked_follow}
use Rattle.au_running.proofs.ConstantLemmas.{are_simple}
use Rattle.au_running.proofs.ClosedLemmas.{closed_formed}
use Rattle.au_running.proofs.GoodLemmas.{followed_follow}
use Rattle.au_running.proofs.OrderLemmas.{from_closed, in_order}
use Rattle.au_running.proofs.DerivedLemmas.{body_typed}
use Rattle.au_running.proofs.SharedLemmas.{homes_shared}

-- a constant out of the range of its kind, at a note that is in no tree
pub none_is_good : NoClosedViewIsGood
none_is_good told functions round slot good =
    let note : ClosedNote = record {
      of = closed_type.unit;
      free = None;
      literal = Some (literals.Int Nat8 (pos 256));
    } in
    true≢false (sym (good.constants note [] (values.number Nat8 (pos 256)) refl))

pub derived_follow : DerivedProgramsFollow
derived_follow program noted derived entry functions closes first numbers alike apart told linear once
    fields_once begins input ticks claim =
    let round = surroundings_of program functions in
    let says = what_is program functions in
    let all = functions_of program numbers functions in
    let which = λ (i : ℕ) (g : Function ℕ ClosedNote (Callee ℕ)) (e : slice_get all i ≡ Some g).
    from_closed round (numbers i) (slice_get functions i) g (sym (in_order round functions numbers i) ∙ e) in
    let followed : AreFollowed told all = record {
      formed = λ i g e.
          let f = which i g e in
          subst (λ (x : Function ℕ ClosedNote (Callee ℕ)). IsFormed x.body) f.2
          (closed_formed program noted derived entry functions closes i f.0 f.1);
      suits = asked_follow program functions once fields_once
          (are_simple program noted derived entry functions closes) numbers;
      linear = λ i g e of.
          let f = which i g e in
          linear of ∙ ap (λ (x : Function ℕ ClosedNote (Callee ℕ)). x.view.is_linear of) f.2;
      homes = homes_shared program noted entry functions closes round (λ of. true) says.0 says.1
          (λ one body is. body_typed program noted derived one.of body is) first numbers alike apart;
      entry = begins;
    } in
    let same : mean (λ i. slice_get all i) 0 input ticks
    ≡ mean (generic_functions program noted first) entry input ticks =
    (λ j. mean (λ i. in_order round functions numbers i j) 0 input ticks)
    ∙ sym (meaning_kept program noted entry functions closes first numbers alike
    (surroundings_of program functions) (λ of. true) says.0 says.1 input ticks) in
    subst (λ m. Follows told all input m) same
    (followed_follow ClosedNote (Callee ℕ) told all followed input ticks
    (λ e. claim (sym (ap (λ m. m.ending) same) ∙ e)))
