-- A run that is cut off lies between two runs of the meaning.
use Rattle.std.proofs.Common.{◌≡◌, ℕ, ◌+◌, ◌-◌, ◌*◌, ◌/◌, ◌≤◌, Bool, true, false, ◌==◌, if◌then◌else◌, List}
use Rattle.std.proofs.Common.{map, refl, sym, ap, subst, ◌∙◌, arith, slice_get, nat_lt, leb-true, ltb-true}
use Rattle.std.proofs.Common.{ltb-false, true≢false}
use Rattle.std.proofs.Math.Nat.{le_refl}
use Rattle.au_type_texts.specs.Types.{ClosedType}
use Rattle.au_effects.specs.Values as values
use Rattle.au_low.specs.declared.code.LowType.{LowType}
use Rattle.au_low.specs.declared.endings.Ending.TheVariants.{Steps}
use Rattle.au_low.specs.Runs as low
use Rattle.au_low.specs.Runs.{low_run, abort_kind}
use Rattle.au_lowered.specs.Agreeing.{event_numbered, ending_numbered}
use Rattle.au_lowered.specs.Programs.{lowered, texts_in, types_in}
use Rattle.au_meaning.specs.Laws.{Begins, is_over}
use Rattle.au_meaning.specs.Meanings.{mean, seen, exit_in}
use Rattle.au_meaning.specs.Ticks.{Out, gives, aborts, cut, no_rule}
use Rattle.au_meaning.specs.Views.{Function}
use Rattle.au_meaning.specs.Worlds.{Value, Ending as Meant, Outcome, exit, abort, running, stuck}
use Rattle.au_lowered.specs.FollowLaws.{Follows, Between}
use Rattle.au_lowered.specs.FollowPrograms.{GoodProgram}
use Rattle.au_lowered.proofs.GrowthLemmas.{Grown, run_grown}
use Rattle.au_lowered.proofs.RunLemmas.{runs_follow}

-- no value is an exit that goes on
exit_case : (a b : Bool) → (if a then exit true else if b then exit false else stuck) ≡ running → ⊥
exit_case true b e = grind arith
exit_case false true e = grind arith
exit_case false false e = grind arith

exit_ends : (v : Value) → exit_in v ≡ running → ⊥
exit_ends (values.made tag birth values.no_fields) e = exit_case (tag == 0) (tag == 1) e
exit_ends (values.made tag birth (values.field_then value rest)) e = grind arith
exit_ends other e = grind arith

-- how many ticks were made
pub seen_within : (ticks : ℕ) (r : Out Value) → (seen ticks r).made ≤ ticks
seen_within ticks (gives value world left) = omega arith
seen_within ticks (aborts fault world left) = omega arith
seen_within ticks (cut world) = le_refl ticks
seen_within ticks (no_rule world left) = omega arith

pub seen_all : (ticks : ℕ) (r : Out Value) → (seen ticks r).ending ≡ running → ticks ≤ (seen ticks r).made
seen_all ticks (gives value world left) e = absurd (exit_ends value e)
seen_all ticks (aborts fault world left) e = absurd (grind arith)
seen_all ticks (cut world) e = le_refl ticks
seen_all ticks (no_rule world left) e = absurd (grind arith)

-- a run that is over isn't cut off
over_ends : (texts : List (List ℕ)) (end : Meant) → is_over end ≡ true → (end ≡ stuck → ⊥)
    → ending_numbered texts end ≡ Steps → ⊥
over_ends texts (exit success) o unstuck e = grind arith
over_ends texts (abort fault) o unstuck e = grind arith
over_ends texts running o unstuck e = true≢false (sym o)
over_ends texts stuck o unstuck e = unstuck refl

pub not_over : (end : Meant) → is_over end ≡ false → end ≡ running
not_over (exit success) e = absurd (true≢false e)
not_over (abort fault) e = absurd (true≢false e)
not_over running e = refl
not_over stuck e = absurd (true≢false e)

module _ {T C : Type 0} (told : ClosedType → LowType) (functions : List (Function ℕ T C)) (good :
    GoodProgram told functions) (input : List ℕ) where
  abbrev meant_at : ℕ → Outcome
  meant_at ticks = mean (λ i. slice_get functions i) 0 input ticks

  abbrev ran_at : ℕ → low.Outcome
  ran_at limit = low_run true (lowered told functions) input limit

  pub ends_so : (limit steps : ℕ) (m : Outcome) → (follows : Follows told functions input m) → is_over m.ending
      ≡ true → (m.ending ≡ stuck → ⊥)
      → follows.steps ≤ limit → (ran_at limit).ending ≡ Steps → ⊥
  ends_so limit steps m follows over unstuck le cut_off =
      let more = limit - follows.steps in
      let all : follows.steps + more ≡ limit = omega (arith, le) in
      let same : ran_at limit ≡ ran_at follows.steps = ap (λ k. ran_at k) (sym all)
      ∙ follows.stays over more in
      over_ends (texts_in functions) m.ending over unstuck (sym follows.agrees.ending
      ∙ sym (ap (λ (o : low.Outcome). o.ending) same) ∙ cut_off)

  -- what ran for fewer steps is the beginning
  grows_to : (few many : ℕ) → few ≤ many → Grown (ran_at few) (ran_at many)
  grows_to few many le =
      let all : few + (many - few) ≡ many = omega (arith, le) in
      subst (λ k. Grown (ran_at few) (ran_at k)) all (run_grown true (lowered told functions) input few
      (many - few))

  below : (limit : ℕ) → ((meant_at (limit / 8)).ending ≡ stuck → ⊥) → (ran_at limit).ending ≡ Steps
      → Begins (meant_at (limit / 8)).world.output (ran_at limit).output
      × Begins (map (event_numbered (types_in functions)) (meant_at (limit / 8)).world.store.deeds) (ran_at
      limit).events
  below limit unstuck cut_off =
      let m = meant_at (limit / 8) in
      let follows = runs_follow told functions good input (limit / 8) unstuck in
      let ran = follows.made in
      let most : (ran_at follows.steps).made ≤ 8 * m.made = leb-true _ (8 * m.made) follows.in_step.most in
      let few : m.made ≤ limit / 8 = seen_within (limit / 8) _ in
      let eighth : 8 * (limit / 8) ≤ limit = omega arith in
      let le : follows.steps ≤ limit = omega (arith, ran, most, few, eighth) in
      let grown = grows_to follows.steps limit le in (
        subst (λ xs. Begins xs (ran_at limit).output) follows.agrees.output grown.output,
        subst (λ xs. Begins xs (ran_at limit).events) follows.agrees.events grown.events,
      )

  above : (limit : ℕ) → ((meant_at limit).ending ≡ stuck → ⊥) → (ran_at limit).ending ≡ Steps
      → Begins (ran_at limit).output (meant_at limit).world.output
      × Begins (ran_at limit).events (map (event_numbered (types_in functions)) (meant_at
      limit).world.store.deeds)
  above limit unstuck cut_off = by_over (is_over (meant_at limit).ending) refl (nat_lt limit follows.steps)
      refl
    where
      follows : Follows told functions input (mean (λ i. slice_get functions i) 0 input limit)
      follows = runs_follow told functions good input limit unstuck

      longer : limit ≤ follows.steps → Begins (ran_at limit).output (meant_at limit).world.output
          × Begins (ran_at limit).events (map (event_numbered (types_in functions)) (meant_at
          limit).world.store.deeds)
      longer le =
          let grown = grows_to limit follows.steps le in (
            subst (λ xs. Begins (ran_at limit).output xs) follows.agrees.output grown.output,
            subst (λ xs. Begins (ran_at limit).events xs) follows.agrees.events grown.events,
          )

      by_over : (over : Bool) → is_over (meant_at limit).ending ≡ over → (less : Bool)
          → nat_lt limit follows.steps ≡ less
          → Begins (ran_at limit).output (meant_at limit).world.output
          × Begins (ran_at limit).events (map (event_numbered (types_in functions)) (meant_at
          limit).world.store.deeds)
      by_over true o true l = longer (let k = ltb-true limit follows.steps l in omega (arith, k))
      by_over true o false l = absurd (ends_so limit 0 (meant_at limit) follows o unstuck (ltb-false limit
          follows.steps l) cut_off)
      by_over false o less l =
          let runs = not_over (meant_at limit).ending o in
          let all : limit ≤ (meant_at limit).made = seen_all limit _ runs in
          let least : (meant_at limit).made ≤ (ran_at follows.steps).made = leb-true (meant_at limit).made _
          follows.in_step.least in
          longer (omega (arith, all, least, follows.made))

  pub between : (limit : ℕ) → ((meant_at (limit / 8)).ending ≡ stuck → ⊥) → ((meant_at limit).ending ≡ stuck
      → ⊥) → (ran_at limit).ending ≡ Steps
      → Between functions (meant_at (limit / 8)) (ran_at limit) (meant_at limit)
  between limit unstuck unstuck2 cut_off =
      let low_side = below limit unstuck cut_off in
      let high_side = above limit unstuck2 cut_off in
      record {
        output_from = low_side.0;
        events_from = low_side.1;
        output_to = high_side.0;
        events_to =
            high_side.1;
      }
