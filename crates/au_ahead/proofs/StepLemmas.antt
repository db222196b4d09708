-- What a walk that breaks no life says of single steps.
use Rattle.std.proofs.Common.{◌≡◌, ℕ, Bool, true, false, ◌==◌, List, [], Option, Some, Ok, Err}
use Rattle.std.proofs.Common.{refl, subst, if◌then◌else◌}
use Rattle.std.specs.Str.{bytes_eq}
use Rattle.au_syntax.specs.declared.types.Access.{Access}
use Rattle.au_syntax.specs.declared.types.Access.TheVariants as access
use Rattle.au_syntax.specs.Plain.{Bytes, PlainExpression}
use Rattle.au_lives.specs.declared.lives.Sort.{Sort}
use Rattle.au_lives.specs.Lives.{Fate, going, broken, Hold, unlent, read_lent, write_lent, hidden, verdict}
use Rattle.au_lives.specs.Lives.{unless_hidden, opening_counts, is_free, keeps}
use Rattle.au_lives.specs.Mentions.{Counts, unmentioned, one_write_borrow, one_look, counts_in}
use Rattle.au_lives.specs.Paths.{whole, opening, assignment, assignment_behind}
use Rattle.au_lives.specs.Walks.{Reach, Walk, ◌>>=◌, merge, only, land, landed, walk_by, walk_step, noted}
use Rattle.au_lives.specs.Walks.{does}
use Rattle.au_lives.proofs.KeepingLemmas.{verdict_kept}
use Rattle.au_lives.proofs.Summaries.{Has, has_left, has_right}
use Rattle.au_ahead.specs.Ahead.{OnGood}

-- ---- walks

-- one walk and then another
pub walk_gave : (w : Walk) (f : Reach → Walk) (o : Reach) → (w >>= f) ≡ Ok o
    → (q : Reach) × (w ≡ Ok q) × (f q ≡ Ok o)
walk_gave (Ok q) f o h = (q, refl, h)
walk_gave (Err b) f o h = absurd cc

pub noted_gave : (i : ℕ) (w : Walk) (o : Reach) → noted i w ≡ Ok o → w ≡ Ok o
noted_gave i (Ok r) o h = h
noted_gave i (Err b) o h = absurd cc

-- the states of one reach are among those of another
abbrev pub Within : Reach → Reach → Type 0
Within a b = (s : Bool) (p : List ℕ) → Has a s p → (q : List ℕ) × Has b s q

pub within_on : (a b c : Reach) → Within a b → Within b c → Within a c
within_on a b c f g s p h = let z = f s p h in g s z.0 z.1

pub merged : (a b o : Reach) → ◌≡◌ {A = Walk} (Ok (merge a b)) (Ok o) → Within a o × Within b o
merged a b o h =
    let same : merge a b ≡ o = cc in (
      λ s p has. let z = has_left a b s p has in (z.0, subst (λ t. Has t s z.0) same z.1),
      λ s p has. let z = has_right a b s p has in (z.0, subst (λ t. Has t s z.0) same z.1),
    )

-- ---- steps

only_here : (s : Bool) (p : List ℕ) → Has (only s (Some p)) s p
only_here true p = refl
only_here false p = refl

land_good : (f : Fate) (p : List ℕ) (o : Reach) (Q : Bool → Type 0) → land (Some p) f ≡ Ok o
    → ((s : Bool) (q : List ℕ) → Has o s q → Q s) → OnGood f Q
land_good (going s) p o Q h go =
    let same : only s (Some p) ≡ o = cc in go s p (subst (λ t. Has t s p) same (only_here s p))
land_good (broken k) p o Q h go = absurd cc

landed_good : (at : Option (List ℕ)) (p : List ℕ) (f : Fate) (o : Reach) (Q : Bool → Type 0) → at ≡ Some p
    → land at f ≡ Ok o → ((s : Bool) (q : List ℕ) → Has o s q → Q s) → OnGood f Q
landed_good at p f o Q is h go =
    let there : land (Some p) f ≡ Ok o = subst (λ a. land a f ≡ Ok o) is h in land_good f p o Q there go

-- a step from each state that is possible leads to one that is possible behind it
pub on_step : (f : Bool → Fate) (r o : Reach) (Q : Bool → Type 0) → walk_step f r ≡ Ok o
    → ((s : Bool) (q : List ℕ) → Has o s q → Q s) → (u : Bool) (p : List ℕ) → Has r u p → OnGood (f u) Q
unfolding walk_by
on_step f r o Q h go u p has =
    let first = walk_gave (land r.spent (f true)) (landed (land r.live (f false))) o h in
    let second = walk_gave (land r.live (f false)) (λ b. Ok (merge first.0 b)) o first.2 in
    let both = merged first.0 second.0 o second.2 in
    by u has first.1 second.1 both
  where
    by : (u : Bool) → Has r u p → {a b : Reach} → land r.spent (f true) ≡ Ok a → land r.live (f false) ≡ Ok b
        → Within a o × Within b o → OnGood (f u) Q
    by true has {a} {b} spent live both =
        landed_good r.spent p (f true) a Q has spent (λ s q h. let z = both.0 s q h in go s z.0 z.1)
    by false has {a} {b} spent live both =
        landed_good r.live p (f false) b Q has live (λ s q h. let z = both.1 s q h in go s z.0 z.1)

-- ---- steps that don't consume

pub step_kept : (h : Hold) (k : Counts) → (k.consumed == 0) ≡ true → (u v : Bool) → verdict h k u ≡ going v → v ≡ u
step_kept h k e u v w = verdict_kept h k e u v [] w

named_quiet : (h : Hold) (b : Bool) (k : Counts) → (k.consumed == 0) ≡ true
    → ((unless_hidden h (if b then k else unmentioned)).consumed == 0) ≡ true
named_quiet unlent true k e = e
named_quiet read_lent true k e = e
named_quiet write_lent true k e = e
named_quiet hidden true k e = refl
named_quiet unlent false k e = refl
named_quiet read_lent false k e = refl
named_quiet write_lent false k e = refl
named_quiet hidden false k e = refl

opening_quiet : (a : Access) → ((opening_counts a).consumed == 0) ≡ true
opening_quiet access.Read = refl
opening_quiet access.Write = refl

module _ (x : Bytes) (sort : Sort) (h : Hold) where
  pub whole_kept : (e : PlainExpression) → keeps x (is_free sort) h e ≡ true → (u v : Bool)
      → does x sort (whole e) h u ≡ going v → v ≡ u
  whole_kept e k u v w = step_kept h (unless_hidden h (counts_in x (is_free sort) e)) k u v w

  pub opening_kept : (a : Access) (y : Bytes) (u v : Bool) → does x sort (opening a y) h u ≡ going v → v ≡ u
  opening_kept a y u v w =
      step_kept h (unless_hidden h (if bytes_eq y x then opening_counts a else unmentioned))
      (named_quiet h (bytes_eq y x) (opening_counts a) (opening_quiet a)) u v w

  pub assignment_kept : (y : Bytes) (u v : Bool) → does x sort (assignment y) h u ≡ going v → v ≡ u
  assignment_kept y u v w =
      step_kept h (unless_hidden h (if bytes_eq y x then one_write_borrow else unmentioned))
      (named_quiet h (bytes_eq y x) one_write_borrow refl) u v w

  pub behind_kept : (y : Bytes) (u v : Bool) → does x sort (assignment_behind y) h u ≡ going v → v ≡ u
  behind_kept y u v w =
      step_kept h (unless_hidden h (if bytes_eq y x then one_look else unmentioned))
      (named_quiet h (bytes_eq y x) one_look refl) u v w
