-- Runs that are cut off: a front of what they write was written.
use Rattle.std.proofs.Common.{◌≡◌, ℕ, ◌+◌, ◌-◌, false, List, [], ◌++◌, length, take, Option, Some, None}
use Rattle.std.proofs.Common.{IfSome, refl, sym, ap, subst, ◌∙◌, arith}
use Rattle.std.specs.Option.{option_map}
use Rattle.std.proofs.Math.Seq.{take-append_seam}
use Rattle.std.proofs.lemmas.List.{append-nil}
use Rattle.au_base.specs.Outside.{Adds, AddsFront}
use Rattle.au_base.proofs.OutsideLemmas.{adds_none, front_first}
use Rattle.au_effects.specs.Worlds.{Deed}
use Rattle.au_low.specs.Runs.{Outcome, low_run}
use Rattle.au_low.specs.declared.code.Code.{Code}
use Rattle.au_low.specs.declared.endings.Ending.{Ending}
use Rattle.au_meaning.specs.Laws.{Begins}
use Rattle.au_runs.specs.Calls.{HasWaited, IsCut, IsMade, Runs}
use Rattle.au_lowered.proofs.GrowthLemmas.{run_grown}

-- ---- fronts

-- a front of the beginning is a front of the whole
pub front_of_whole : (old new : Option (List ℕ)) (xs ys : List ℕ) → Begins xs ys → AddsFront old new xs
    → AddsFront old new ys
front_of_whole old new xs ys begins front =
    subst (AddsFront old new) (sym begins.1) (front_first old new xs begins.0 front)

-- all of it is a front
front_all : (old new : Option (List ℕ)) (xs : List ℕ) → Adds old new xs → AddsFront old new xs
front_all old new xs adds =
    let whole : take (length xs) (xs ++ []) ≡ xs = take-append_seam xs [] in
    let all : take (length xs) xs ≡ xs = ap (take (length xs)) (sym (append-nil xs)) ∙ whole in
    (length xs, subst (Adds old new) (sym all) adds)

-- ---- the input

given_at : (left : Option (List ℕ)) (taken rest : List ℕ) → IfSome left (λ bytes. bytes ≡ rest)
    → IfSome (option_map (λ bytes. taken ++ bytes) left) (λ bytes. bytes ≡ taken ++ rest)
given_at None taken rest after = tt
given_at (Some bytes) taken rest after = ap (λ bytes. taken ++ bytes) after

pub given_by : (told left : Option (List ℕ)) (taken rest : List ℕ)
    → told ≡ option_map (λ bytes. taken ++ bytes) left → IfSome left (λ bytes. bytes ≡ rest)
    → IfSome told (λ bytes. bytes ≡ taken ++ rest)
given_by told left taken rest before after =
    subst (λ (told : Option (List ℕ)). IfSome told (λ bytes. bytes ≡ taken ++ rest)) (sym before)
    (given_at left taken rest after)

abbrev rest_in : Option (List ℕ) → List ℕ
rest_in None = []
rest_in (Some bytes) = bytes

after_is : (left : Option (List ℕ)) → IfSome left (λ bytes. bytes ≡ rest_in left)
after_is None = tt
after_is (Some bytes) = refl

-- ---- what is cut off

-- a run that didn't begin
pub unbegun_cut : (run : Runs) (limit : ℕ) (told out : Option (List ℕ)) → IsCut run limit told out out
unbegun_cut run limit told out = record {
  input = rest_in told;
  given = after_is told;
  front = (0, adds_none out);
}

-- a run that was made, and of which nothing is told
pub made_cut : (ends : Ending) (run : Runs) (limit : ℕ) (told left out out' : Option (List ℕ))
    (events : List (Deed ℕ)) → IsMade ends run limit told left out out' events
    → IsCut run limit told out out'
made_cut ends run limit told left out out' events made = record {
  input = made.taken ++ made.rest;
  given = given_by told left made.taken made.rest made.input.before made.input.after;
  front = front_all out out' (run (made.taken ++ made.rest) limit).output made.output;
}

-- a run that waits for a byte that couldn't be read: it writes no less where it goes on
pub waited_cut : (code : Code) (limit : ℕ) (told left out out' : Option (List ℕ)) (events : List (Deed ℕ))
    → HasWaited (low_run false code) limit told left out out' events
    → IsCut (low_run false code) limit told out out'
waited_cut code limit told left out out' events waited =
    let input = waited.taken ++ rest_in left in
    let more : ℕ = limit - waited.made in
    let all : waited.made + more ≡ limit = omega (arith, waited.within) in
    let wrote : (low_run false code input waited.made).output ≡ waited.output =
    ap (λ (o : Outcome). o.output) (waited.so_far (rest_in left)) in
    let grown : Begins (low_run false code input waited.made).output (low_run false code input limit).output =
    subst (λ (n : ℕ). Begins (low_run false code input waited.made).output
    (low_run false code input n).output) all (run_grown false code input waited.made more).output in
    record {
      input = input;
      given = given_by told left waited.taken (rest_in left) waited.input (after_is left);
      front =
          front_of_whole out out' waited.output (low_run false code input limit).output
          (subst (λ (xs : List ℕ). Begins xs (low_run false code input limit).output) wrote grown)
          (front_all out out' waited.output waited.written);
    }
