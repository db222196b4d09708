-- Every run of the code of a good program shows what the program means.
use Rattle.std.proofs.Common.{◌≡◌, ℕ, ◌+◌, ◌-◌, ◌*◌, ◌/◌, ◌≤◌, Bool, true, false, List, refl, sym, ap, subst}
use Rattle.std.proofs.Common.{◌∙◌, arith, slice_get, leb-true}
use Rattle.std.specs.Prelude.{IsSomeAnd}
use Rattle.au_type_texts.specs.Types.{ClosedType}
use Rattle.au_effects.specs.Answers as answer
use Rattle.au_low.proofs.MutedRuns.{kept}
use Rattle.au_low.specs.Instructions.{text_bytes}
use Rattle.au_low.specs.Kept.{without_events}
use Rattle.au_low.specs.Runs as low
use Rattle.au_low.specs.Runs.{abort_kind, low_run}
use Rattle.au_low.specs.declared.code.Code.{Code}
use Rattle.au_low.specs.declared.code.LowType.{LowType}
use Rattle.au_low.specs.declared.endings.Ending.{Ending}
use Rattle.au_low.specs.declared.endings.Ending.TheVariants as low_ending
use Rattle.au_lowered.specs.Agreeing.{Agrees, ending_numbered, fault_numbered}
use Rattle.au_lowered.specs.Programs.{lowered, text_number, texts_in}
use Rattle.au_meaning.proofs.MeaningGrowth.{endings_stay}
use Rattle.au_meaning.specs.Laws.{Begins, is_over}
use Rattle.au_meaning.specs.Meanings.{mean}
use Rattle.au_meaning.specs.Views.{Function}
use Rattle.au_meaning.specs.Worlds as source
use Rattle.au_meaning.specs.Worlds.{Fault, Outcome, abort, exit, running, stuck}
use Rattle.au_shipped.specs.declared.prims.AbortKind.{AbortKind}
use Rattle.au_lowered.proofs.BetweenLemmas.{between, ends_so, seen_within}
use Rattle.au_lowered.proofs.EndLemmas.{has_ended}
use Rattle.au_lowered.proofs.RunLemmas.{runs_follow}
use Rattle.au_lowered.specs.FollowPrograms.{GoodProgram}
use Rattle.au_running.specs.Runs.{RefinesOn, kind_words, ran_by}
use Rattle.au_running.specs.Shown.{IsSeen, AnswerShows, fault_words}
use Rattle.au_running.proofs.NamedLemmas.{abort_named}
use Rattle.au_syntax.specs.Plain.{Bytes}

-- ---- endings

-- what ended so in numbers ended so
exit_back : (texts : List Bytes) (end : source.Ending) (success : Bool)
    → ending_numbered texts end ≡ low_ending.Exit success → end ≡ exit success
exit_back texts (exit b) success e = let is : b ≡ success = cc in ap (λ x. exit x) is
exit_back texts (abort fault) success e = absurd (grind arith)
exit_back texts running success e = absurd (grind arith)
exit_back texts stuck success e = absurd (grind arith)

abort_back : (texts : List Bytes) (end : source.Ending) (why : AbortKind)
    → ending_numbered texts end ≡ low_ending.Abort why
    → (fault : Fault) × (end ≡ abort fault) × (abort_kind (fault_numbered texts fault) ≡ why)
abort_back texts (exit b) why e = absurd (grind arith)
abort_back texts (abort fault) why e = (fault, refl, cc)
abort_back texts running why e = absurd (grind arith)
abort_back texts stuck why e = absurd (grind arith)

pub stuck_back : (texts : List Bytes) (end : source.Ending)
    → ending_numbered texts end ≡ low_ending.Stuck → end ≡ stuck
stuck_back texts (exit b) e = absurd (grind arith)
stuck_back texts (abort fault) e = absurd (grind arith)
stuck_back texts running e = absurd (grind arith)
stuck_back texts stuck e = refl

-- the words of a fault
words_same : (code : Code) (texts : List Bytes) (fault : Fault)
    → ((text : Bytes) → fault ≡ answer.called text → text_bytes code (text_number texts text) ≡ text)
    → fault_words fault ≡ kind_words code (abort_kind (fault_numbered texts fault))
words_same code texts answer.arithmetic named = refl
words_same code texts (answer.called text) named = sym (named text refl)
words_same code texts answer.not_empty named = refl
words_same code texts answer.empty named = refl
words_same code texts answer.out_of_range named = refl

module _ {T C : Type 0} (told : ClosedType → LowType) (functions : List (Function ℕ T C))
    (good : GoodProgram told functions) (input : List ℕ) (limit : ℕ)
    (unstuck : (mean (λ i. slice_get functions i) 0 input limit).ending ≡ stuck → ⊥) where
  abbrev code : Code
  code = lowered told functions

  abbrev meant : ℕ → Outcome
  meant ticks = mean (λ i. slice_get functions i) 0 input ticks

  abbrev full : low.Outcome
  full = low_run true code input limit

  abbrev plain : low.Outcome
  plain = low_run false code input limit

  muted : plain ≡ without_events full
  muted = kept code input limit

  ends_alike : plain.ending ≡ full.ending
  ends_alike = ap (λ (o : low.Outcome). o.ending) muted

  -- an eighth of the ticks isn't stuck either
  pub fewer : (meant (limit / 8)).ending ≡ stuck → ⊥
  fewer e =
      let more = limit - limit / 8 in
      let eighth : limit / 8 ≤ limit = omega arith in
      let all : limit / 8 + more ≡ limit = omega (arith, eighth) in
      let over : is_over (meant (limit / 8)).ending ≡ true = ap is_over e in
      unstuck (ap (λ n. (meant n).ending) (sym all)
      ∙ ap (λ (o : Outcome). o.ending)
      (endings_stay (λ i. slice_get functions i) 0 input (limit / 8) more over)
      ∙ e)

  -- ---- a run that has ended

  seen_same : Agrees functions (meant limit) full → IsSeen (meant limit) plain.output plain.left
  seen_same agrees = record {
    output = sym (ap (λ (o : low.Outcome). o.output) muted ∙ agrees.output);
    input = sym (ap (λ (o : low.Outcome). o.left) muted ∙ agrees.left);
  }

  -- by how it ended
  shown_by : (end : Ending) → full.ending ≡ end
      → IsSomeAnd (ran_by code end) (λ ran. AnswerShows ran meant limit plain.output plain.left)
      → RefinesOn code meant input limit
  shown_by end e shows =
      subst (λ (end : Ending). IsSomeAnd (ran_by code end)
      (λ ran. AnswerShows ran meant limit plain.output plain.left)) (sym (ends_alike ∙ e)) shows

  exit_shown : (success : Bool) → full.ending ≡ low_ending.Exit success → RefinesOn code meant input limit
  exit_shown success e =
      let over = has_ended told functions good input limit unstuck (λ cut. not_steps (sym e ∙ cut)) in
      shown_by (low_ending.Exit success) e (
        exit_back (texts_in functions) (meant limit).ending success (sym over.agrees.ending ∙ e),
        seen_same over.agrees,
      )
    where
      not_steps : low_ending.Exit success ≡ low_ending.Steps → ⊥
      not_steps e = grind arith

  abort_shown : (why : AbortKind) → full.ending ≡ low_ending.Abort why → RefinesOn code meant input limit
  abort_shown why e =
      let over = has_ended told functions good input limit unstuck (λ cut. not_steps (sym e ∙ cut)) in
      let back = abort_back (texts_in functions) (meant limit).ending why (sym over.agrees.ending ∙ e) in
      shown_by (low_ending.Abort why) e (
        (
          back.0,
          back.1,
          words_same code (texts_in functions) back.0
              (λ text is. abort_named told functions good input limit text (back.1 ∙ ap (λ f. abort f) is))
              ∙ ap (kind_words code) back.2,
        ),
        seen_same over.agrees,
      )
    where
      not_steps : low_ending.Abort why ≡ low_ending.Steps → ⊥
      not_steps e = grind arith

  stuck_shown : full.ending ≡ low_ending.Stuck → RefinesOn code meant input limit
  stuck_shown e =
      let over = has_ended told functions good input limit unstuck (λ cut. not_steps (sym e ∙ cut)) in
      absurd (unstuck (stuck_back (texts_in functions) (meant limit).ending (sym over.agrees.ending ∙ e)))
    where
      not_steps : low_ending.Stuck ≡ low_ending.Steps → ⊥
      not_steps e = grind arith

  -- ---- a run whose steps were spent

  still : full.ending ≡ low_ending.Steps → is_over (meant (limit / 8)).ending ≡ false
  still cut_off = by (is_over (meant (limit / 8)).ending) refl
    where
      by : (over : Bool) → is_over (meant (limit / 8)).ending ≡ over
          → is_over (meant (limit / 8)).ending ≡ false
      by false o = o
      by true o =
          let m = meant (limit / 8) in
          let follows = runs_follow told functions good input (limit / 8) fewer in
          let made = follows.made in
          let most : (low_run true (lowered told functions) input follows.steps).made ≤ 8 * m.made =
          leb-true _ (8 * m.made) follows.in_step.most in
          let few : m.made ≤ limit / 8 = seen_within (limit / 8) _ in
          let eighth : 8 * (limit / 8) ≤ limit = omega arith in
          let within : follows.steps ≤ limit = omega (arith, made, most, few, eighth) in
          absurd (ends_so told functions good input limit 0 m follows o fewer within cut_off)

  cut_shown : full.ending ≡ low_ending.Steps → RefinesOn code meant input limit
  cut_shown e =
      let lies = between told functions good input limit fewer unstuck e in
      let same : full.output ≡ plain.output = sym (ap (λ (o : low.Outcome). o.output) muted) in
      shown_by low_ending.Steps e (record {
        still = still e;
        from = subst (λ xs. Begins (meant (limit / 8)).world.output xs) same lies.output_from;
        to = subst (λ xs. Begins xs (meant limit).world.output) same lies.output_to;
      })

  any_shown : (end : Ending) → full.ending ≡ end → RefinesOn code meant input limit
  any_shown (low_ending.Exit success) e = exit_shown success e
  any_shown (low_ending.Abort why) e = abort_shown why e
  any_shown low_ending.Steps e = cut_shown e
  any_shown low_ending.Stuck e = stuck_shown e

-- a run of the code of a good program shows what the program means, where that isn't stuck
pub good_shows : {T C : Type 0} (told : ClosedType → LowType) (functions : List (Function ℕ T C))
    → GoodProgram told functions → (input : List ℕ) (limit : ℕ)
    → ((mean (λ i. slice_get functions i) 0 input limit).ending ≡ stuck → ⊥)
    → RefinesOn (lowered told functions) (λ ticks. mean (λ i. slice_get functions i) 0 input ticks) input
    limit
good_shows told functions good input limit unstuck =
    any_shown told functions good input limit unstuck
    (low_run true (lowered told functions) input limit).ending refl
