-- What is told of variables is right, and nothing is told where all lives are good.
use Rattle.std.proofs.Common.{◌≡◌, List, [], ◌∷◌, Option, None, Some, Ok, Err, refl, sym, ap, subst, ◌∙◌}
use Rattle.au_base.specs.declared.places.Pos.{Pos}
use Rattle.au_syntax.specs.Plain.{Bytes, PlainStatements}
use Rattle.au_lives.specs.declared.lives.Sort.{Sort}
use Rattle.au_lives.specs.Lives.{GoodLife}
use Rattle.au_lives.specs.Places.{loop_places, part_places}
use Rattle.au_lives.specs.Walks.{Walk, checked}
use Rattle.au_lives.specs.Refusals.{Refusal, in_loop, in_part, on_path, Refuses, at_first, by_walk, refusal}
use Rattle.au_lives.specs.Refusals.{Variable, HasGoodLife, GoodLives, Refused, or_later, first_refused}
use Rattle.au_lives.specs.Refusals.{IsFirstRefused}
use Rattle.au_lives.proofs.PlaceLemmas.{no_loop_place, no_part_place, loops_kept, parts_kept}
use Rattle.au_lives.proofs.WholeLemmas.{yes_good, trimmed_bad, bad_not_good}

module _ (x : Bytes) (sort : Sort) (b : PlainStatements) where
  -- what is told of one variable
  abbrev Told : Option Refusal → Type 0
  Told None = GoodLife x sort b
  Told (Some r) = Refuses x sort b r

  by_walk_told : (w : Walk) → checked x sort b ≡ w → loop_places x sort b ≡ [] → part_places x sort b ≡ [] →
      Told (by_walk w)
  by_walk_told (Ok o) e l p =
      record {
        paths = yes_good x sort b o (loops_kept x sort b l) e;
        loops = loops_kept x sort b l;
        parts =
            parts_kept x sort b p;
      }
  by_walk_told (Err f) e l p = (l, (p, trimmed_bad x sort b f (loops_kept x sort b l) e))

  by_parts_told : (ps : List Pos) → part_places x sort b ≡ ps → loop_places x sort b ≡ [] →
      Told (at_first ps in_part (by_walk (checked x sort b)))
  by_parts_told [] e l = by_walk_told (checked x sort b) refl l e
  by_parts_told (p ∷ ps) e l = (l, (ps, e))

  by_loops_told : (ps : List Pos) → loop_places x sort b ≡ ps →
      Told (at_first ps in_loop (at_first (part_places x sort b) in_part (by_walk (checked x sort b))))
  by_loops_told [] e = by_parts_told (part_places x sort b) refl e
  by_loops_told (p ∷ ps) e = (ps, e)

  pub told : Told (refusal x sort b)
  told = by_loops_told (loop_places x sort b) refl

  empty_some : {A : Type 0} (p : Pos) (ps qs : List Pos) → qs ≡ p ∷ ps → qs ≡ [] → A
  empty_some p ps qs g h = let wrong : ◌≡◌ {A = List Pos} (p ∷ ps) [] = sym g ∙ h in absurd (cc)

  -- what is refused isn't good
  pub refused_bad : (r : Refusal) → Refuses x sort b r → GoodLife x sort b → ⊥
  refused_bad (in_loop at) h g = empty_some at h.0 (loop_places x sort b) h.1 (no_loop_place x sort b g.loops)
  refused_bad (in_part at) h g =
      empty_some at h.1.0 (part_places x sort b) h.1.1 (no_part_place x sort b g.parts)
  refused_bad (on_path kind path) h g = bad_not_good x sort b kind path h.1.1 g.paths

  pub told_none : refusal x sort b ≡ None → GoodLife x sort b
  told_none e = subst Told e told

  pub told_some : (r : Refusal) → refusal x sort b ≡ Some r → Refuses x sort b r
  told_some r e = subst Told e told

  good_on : (o : Option Refusal) → Told o → GoodLife x sort b → o ≡ None
  good_on None t g = refl
  good_on (Some r) t g = absurd (refused_bad r t g)

  pub good_none : GoodLife x sort b → refusal x sort b ≡ None
  good_none g = good_on (refusal x sort b) told g

abbrev name_of : Variable → Bytes
name_of v = v.scope.name.name

-- what is told of all
abbrev AllTold : List Variable → Option Refused → Type 0
AllTold vs None = GoodLives vs
AllTold vs (Some r) = IsFirstRefused vs r

later : (v : Variable) (vs : List Variable) (o : Option Refused) → HasGoodLife v → AllTold vs o →
    AllTold (v ∷ vs) o
later v vs None g t = (g, t)
later v vs (Some r) g t =
    record {
      before = v ∷ t.before;
      after = t.after;
      splits = ap (λ l. v ∷ l) t.splits;
      good = (g, t.good);
      why = t.why;
    }

here_or_later : (v : Variable) (vs : List Variable) (o : Option Refusal) (p : Option Refused) →
    refusal (name_of v) v.sort v.scope.block ≡ o → AllTold vs p → AllTold (v ∷ vs) (or_later v o p)
here_or_later v vs None p e t = later v vs p (told_none (name_of v) v.sort v.scope.block e) t
here_or_later v vs (Some r) p e t =
    record {
      before = [];
      after = vs;
      splits = refl;
      good = tt;
      why =
          told_some (name_of v) v.sort v.scope.block r e;
    }

all_told : (vs : List Variable) → AllTold vs (first_refused vs)
all_told [] = tt
all_told (v ∷ vs) = here_or_later v vs (refusal (name_of v) v.sort v.scope.block) (first_refused vs) refl
    (all_told vs)

pub none_refused : (vs : List Variable) → first_refused vs ≡ None → GoodLives vs
none_refused vs e = subst (AllTold vs) e (all_told vs)

pub some_refused : (vs : List Variable) (r : Refused) → first_refused vs ≡ Some r → IsFirstRefused vs r
some_refused vs r e = subst (AllTold vs) e (all_told vs)

pub all_good : (vs : List Variable) → GoodLives vs → first_refused vs ≡ None
all_good [] g = refl
all_good (v ∷ vs) g =
    ap (λ o. or_later v o (first_refused vs)) (good_none (name_of v) v.sort v.scope.block g.0)
    ∙ all_good vs g.1
