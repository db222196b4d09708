-- A dealing that clears a variable makes its life good.
use Rattle.std.proofs.Common.{◌≡◌, ℕ, ◌≤◌, ◌<◌, ◌==◌, Bool, true, false, not, ◌&&◌, [], Some, None, nat_lt}
use Rattle.std.proofs.Common.{refl, sym, ap, ◌∙◌, arith}
use Rattle.std.proofs.lemmas.Bool.{eqb-true, ltb-true}
use Rattle.au_base.proofs.BoolLemmas.{and_first, and_second}
use Rattle.au_syntax.specs.Plain.{Bytes, PlainStatements}
use Rattle.au_lives.specs.declared.lives.Sort.{Sort}
use Rattle.au_lives.specs.declared.lives.Sort.TheVariants as sorts
use Rattle.au_lives.specs.Lives.{unlent, is_free, keeps_in_parts, GoodLife}
use Rattle.au_lives.specs.Walks.{Reach, reach, ◌>>=◌, finish}
use Rattle.au_lives.proofs.WholeLemmas.{yes_good}
use Rattle.au_clearing.specs.Touches.{Touch, Untouched, Quiet, Written, Consumed, Broken}
use Rattle.au_lives.specs.Scopes.{Scope}
use Rattle.au_clearing.specs.declared.dealings.Life.{Life}
use Rattle.au_clearing.specs.Dealings.{Dealing, deal_block, returns_in_block, is_whole, is_spent, clears}
use Rattle.au_clearing.specs.Dealings.{by_type, life_of}
use Rattle.au_clearing.proofs.TouchLemmas.{rank, parts_kept}
use Rattle.au_clearing.proofs.DealingLemmas.{most}
use Rattle.au_clearing.proofs.KeepingLemmas.{each_block, loops_block}
use Rattle.au_clearing.proofs.GoingLemmas.{Has, Lands, landed_live, finish_goes}
use Rattle.au_clearing.proofs.WalkLemmas.{going_block}

not_true : (a : Bool) → not a ≡ true → a ≡ true → ⊥
not_true true g h = absurd (cc)
not_true false g h = absurd (cc)

whole_rank : (t : Touch) → is_whole t ≡ true → rank t ≤ 3
whole_rank Untouched h = omega arith
whole_rank Quiet h = omega arith
whole_rank Written h = omega arith
whole_rank Consumed h = omega arith
whole_rank Broken h = absurd (cc)

clears_whole : (sort : Sort) (n : ℕ) (d : Dealing) → clears sort n d ≡ true → is_whole d.touch ≡ true
clears_whole sorts.Free n d h = h
clears_whole sorts.WriteReference n d h = h
clears_whole sorts.Linear n d h = and_first (is_whole d.touch) (is_spent n d) h

clears_spent : (sort : Sort) (n : ℕ) (d : Dealing) → clears sort n d ≡ true → sort ≡ sorts.Linear →
    is_spent n d ≡ true
clears_spent sort n d h e =
    and_second (is_whole d.touch) (is_spent n d) (sym (ap (λ s. clears s n d) e) ∙ h)

spared_all : (n : ℕ) (d : Dealing) → is_spent n d ≡ true → (d.spared ≡ n) × (n < most)
spared_all n d h =
    let both = and_second (not d.lives) ((d.spared == n) && nat_lt n most) h in
    let less = and_second (d.spared == n) (nat_lt n most) both in
    (eqb-true d.spared n (and_first (d.spared == n) (nat_lt n most) both), ltb-true n most less)

module _ (x : Bytes) (sort : Sort) (b : PlainStatements) where
  abbrev d : Dealing
  d = deal_block x (is_free sort) b unlent

  pub cleared_good : clears sort (returns_in_block b) d ≡ true → GoodLife x sort b
  cleared_good h =
      let whole = whole_rank d.touch (clears_whole sort (returns_in_block b) d h) in
      let start = reach (Some []) None in
      let loops = loops_block x (is_free sort) b unlent whole in
      let gone = (going_block x sort b unlent).goes whole start (record {
        spent = λ p. absurd (cc);
        owed = λ o p. spared_all (returns_in_block b) d (clears_spent sort (returns_in_block b) d h o);
      }) in
      let end = finish_goes sort gone.0 (λ o p.
      not_true d.lives
      (and_first (not d.lives) _ (clears_spent sort (returns_in_block b) d h o))
      (alive gone.0 gone.1.1 p)) in
      record {
        paths = yes_good x sort b end.0 loops (ap (λ q. q >>= finish sort) gone.1.0 ∙ end.1);
        loops = loops;
        parts = each_block x (is_free sort) (keeps_in_parts x (is_free sort)) 3
            (parts_kept x (is_free sort)) b
            unlent whole;
      }
    where
      alive : (o : Reach) → Lands (reach (Some []) None) o d → Has o.live → d.lives ≡ true
      alive o l p = (landed_live (reach (Some []) None) o d l p).1

-- what is known of a variable, where it clears it
pub life_clears : (s : Scope) (sort : Sort) (life : Life) → life ≡ life_of s →
    clears sort life.returns (by_type (is_free sort) life.dealings) ≡ true →
    GoodLife s.name.name sort s.block
life_clears s sort life is h =
    cleared_good s.name.name sort s.block
    (sym (dealing_is sort)
    ∙ sym (ap (λ (life : Life). clears sort life.returns (by_type (is_free sort) life.dealings)) is)
    ∙ h)
  where
    dealing_is : (sort : Sort) →
        clears sort (life_of s).returns (by_type (is_free sort) (life_of s).dealings)
        ≡ clears sort (returns_in_block s.block) (deal_block s.name.name (is_free sort) s.block unlent)
    dealing_is sorts.Free = refl
    dealing_is sorts.WriteReference = refl
    dealing_is sorts.Linear = refl
