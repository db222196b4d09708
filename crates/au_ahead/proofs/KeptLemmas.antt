-- What consumes nowhere leaves the variable as it is.
use Rattle.std.proofs.Common.{◌≡◌, Bool, true, ◌&&◌, [], ◌∷◌, refl, ◌∙◌}
use Rattle.std.proofs.lemmas.Bool.{and_parts}
use Rattle.au_syntax.specs.Statements.{skip, declare, destructure, assign, assign_through, conditional}
use Rattle.au_syntax.specs.Statements.{conditional_else, case_of, while_loop, for_loop, borrow_in}
use Rattle.au_syntax.specs.Statements.{borrow_typed, discard, return_of, no_statements, statements}
use Rattle.au_syntax.specs.Statements.{no_branches, branches, no_arms, arms}
use Rattle.au_syntax.specs.Plain.{Bytes, PlainExpression, PlainStatement, PlainStatements, PlainBranches, PlainArms}
use Rattle.au_lives.specs.declared.lives.Sort.{Sort}
use Rattle.au_lives.specs.Lives.{Fate, going, broken, Hold, held_from, is_free, keeps, each_in, each_in_block}
use Rattle.au_lives.specs.Lives.{each_in_branches, each_in_arms}
use Rattle.au_lives.specs.Paths.{whole, opening, assignment, assignment_behind, lent, declared, declared_by}
use Rattle.au_lives.specs.Paths.{bound_names, access_of}
use Rattle.au_lives.specs.Walks.{does}
use Rattle.au_ahead.specs.Ahead.{OnGood, Ahead, AheadAll, AheadBranches, AheadArms}
use Rattle.au_ahead.proofs.MoreLemmas.{on_more, more, more_all}
use Rattle.au_ahead.proofs.StepLemmas.{whole_kept, opening_kept, assignment_kept, behind_kept}

-- what held before, and that nothing has changed
abbrev pub Same : (Bool → Type 0) → Bool → Bool → Type 0
Same Q u s = (s ≡ u) × Q s

pub on_kept : (f : Fate) (u : Bool) (Q : Bool → Type 0) → ((s : Bool) → f ≡ going s → s ≡ u) → OnGood f Q
    → OnGood f (Same Q u)
on_kept (going s) u Q same h = (same s refl, h)
on_kept (broken k) u Q same h = h

-- from a state that is the same as this one
from_same : (Q : Bool → Type 0) (u s t : Bool) → s ≡ u → Same Q s t → Same Q u t
from_same Q u s t e h = (h.0 ∙ e, h.1)

module _ (x : Bytes) (sort : Sort) where
  abbrev kept : Hold → PlainExpression → Bool
  kept = keeps x (is_free sort)

  mutual
    pub stays : (s : PlainStatement) (h : Hold) (Q : Bool → Type 0) (u : Bool) → each_in x kept s h ≡ true
        → Ahead x sort s h Q u → Ahead x sort s h (Same Q u) u
    stays (skip at) h Q u k a = (refl, a)
    stays (declare at binding name t e) h Q u k a =
        on_kept (does x sort (whole e) h u) u Q (λ s w. whole_kept x sort h e k u s w) a
    stays (destructure at binds e) h Q u k a =
        on_kept (does x sort (whole e) h u) u Q (λ s w. whole_kept x sort h e k u s w) a
    stays (assign at name fields e) h Q u k a =
        let after = λ (s : Bool). OnGood (does x sort (assignment name.name) h s) Q in
        on_more (does x sort (whole e) h u) (Same after u)
        (λ s. OnGood (does x sort (assignment name.name) h s) (Same Q u))
        (λ s b. on_more (does x sort (assignment name.name) h s) (Same Q s) (Same Q u)
        (λ t c. from_same Q u s t b.0 c)
        (on_kept (does x sort (assignment name.name) h s) s Q
        (λ t w. assignment_kept x sort h name.name s t w) b.1))
        (on_kept (does x sort (whole e) h u) u after (λ s w. whole_kept x sort h e k u s w) a)
    stays (assign_through at name fields e) h Q u k a =
        let after = λ (s : Bool). OnGood (does x sort (assignment_behind name.name) h s) Q in
        on_more (does x sort (whole e) h u) (Same after u)
        (λ s. OnGood (does x sort (assignment_behind name.name) h s) (Same Q u))
        (λ s b. on_more (does x sort (assignment_behind name.name) h s) (Same Q s) (Same Q u)
        (λ t c. from_same Q u s t b.0 c)
        (on_kept (does x sort (assignment_behind name.name) h s) s Q
        (λ t w. behind_kept x sort h name.name s t w) b.1))
        (on_kept (does x sort (whole e) h u) u after (λ s w. whole_kept x sort h e k u s w) a)
    stays (conditional at bs) h Q u k a = stays_branches bs h Q Q u u refl k (λ s e c. (e, c)) a
    stays (conditional_else at bs b) h Q u k a =
        let both = and_parts (each_in_branches x kept bs h) (each_in_block x kept b h) k in
        stays_branches bs h (λ s. AheadAll x sort b h Q s) Q u u refl both.0
        (λ s e c. more_all x sort b h (Same Q s) (Same Q u) (λ t d. from_same Q u s t e d) s
        (stays_all b h Q s both.1 c)) a
    stays (case_of at e all) h Q u k a =
        let both = and_parts (kept h e) (each_in_arms x kept all h) k in
        on_more (does x sort (whole e) h u) (Same (λ s. AheadArms x sort all h Q s) u)
        (λ s. AheadArms x sort all h (Same Q u) s) (λ s c. stays_arms all h Q u s c.0 both.1 c.1)
        (on_kept (does x sort (whole e) h u) u (λ s. AheadArms x sort all h Q s)
        (λ s w. whole_kept x sort h e both.0 u s w) a)
    stays (while_loop at e b) h Q u k a =
        on_more (does x sort (whole e) h u) (λ s. (s ≡ u) × AheadAll x sort b h (λ t. t ≡ u) u × Q u)
        (λ s. (s ≡ u) × AheadAll x sort b h (λ t. t ≡ u) u × Same Q u u) (λ s c. (c.0, c.1, (refl, c.2))) a
    stays (for_loop at name first last b) h Q u k a =
        let inner = held_from x (declared name.name ∷ []) h in
        let both = and_parts (kept h first) (kept h last && each_in_block x kept b inner) k in
        let more = and_parts (kept h last) (each_in_block x kept b inner) both.1 in
        let turns = λ (t : Bool). AheadAll x sort b inner (λ v. v ≡ t) t × Q t in
        let same = λ (t : Bool). AheadAll x sort b inner (λ v. v ≡ t) t × Same Q u t in
        let after = λ (s : Bool). OnGood (does x sort (whole last) h s) turns in
        on_more (does x sort (whole first) h u) (Same after u) (λ s. OnGood (does x sort (whole last) h s) same)
        (λ s c. on_more (does x sort (whole last) h s) (Same turns s) same
        (λ t d. (d.1.0, (d.0 ∙ c.0, d.1.1)))
        (on_kept (does x sort (whole last) h s) s turns (λ t w. whole_kept x sort h last more.0 s t w) c.1))
        (on_kept (does x sort (whole first) h u) u after (λ s w. whole_kept x sort h first both.0 u s w) a)
    stays (borrow_in at access y r region b stop) h Q u k a =
        let inner = held_from x (declared r.name ∷ lent access y.name ∷ []) h in
        on_more (does x sort (opening access y.name) h u) (Same (λ s. AheadAll x sort b inner Q s) u)
        (λ s. AheadAll x sort b inner (Same Q u) s)
        (λ s c. more_all x sort b inner (Same Q s) (Same Q u) (λ t d. from_same Q u s t c.0 d) s
        (stays_all b inner Q s k c.1))
        (on_kept (does x sort (opening access y.name) h u) u (λ s. AheadAll x sort b inner Q s)
        (λ s w. opening_kept x sort h access y.name u s w) a)
    stays (borrow_typed at r t mode y b stop) h Q u k a =
        let inner = held_from x (declared r.name ∷ lent (access_of mode) y.name ∷ []) h in
        on_more (does x sort (opening (access_of mode) y.name) h u) (Same (λ s. AheadAll x sort b inner Q s) u)
        (λ s. AheadAll x sort b inner (Same Q u) s)
        (λ s c. more_all x sort b inner (Same Q s) (Same Q u) (λ v d. from_same Q u s v c.0 d) s
        (stays_all b inner Q s k c.1))
        (on_kept (does x sort (opening (access_of mode) y.name) h u) u (λ s. AheadAll x sort b inner Q s)
        (λ s w. opening_kept x sort h (access_of mode) y.name u s w) a)
    stays (discard at e) h Q u k a =
        on_kept (does x sort (whole e) h u) u Q (λ s w. whole_kept x sort h e k u s w) a
    stays (return_of at e) h Q u k a = a

    pub stays_all : (b : PlainStatements) (h : Hold) (Q : Bool → Type 0) (u : Bool) → each_in_block x kept b h ≡ true
        → AheadAll x sort b h Q u → AheadAll x sort b h (Same Q u) u
    stays_all no_statements h Q u k a = (refl, a)
    stays_all (statements s rest) h Q u k a =
        let inner = held_from x (declared_by s) h in
        let both = and_parts (each_in x kept s h) (each_in_block x kept rest inner) k in
        let after = λ (t : Bool). AheadAll x sort rest inner Q t in
        more x sort s h (Same after u) (λ t. AheadAll x sort rest inner (Same Q u) t)
        (λ t c. more_all x sort rest inner (Same Q t) (Same Q u) (λ v d. from_same Q u t v c.0 d) t
        (stays_all rest inner Q t both.1 c.1)) u (stays s h after u both.0 a)

    stays_branches : (bs : PlainBranches) (h : Hold) (P Q : Bool → Type 0) (u s : Bool) {R : Bool → Type 0} → s ≡ u
        → each_in_branches x kept bs h ≡ true → ((t : Bool) → t ≡ u → P t → R t)
        → AheadBranches x sort bs h P Q s → AheadBranches x sort bs h R (Same Q u) s
    stays_branches no_branches h P Q u s {R} e k other a = other s e a
    stays_branches (branches test b rest) h P Q u s {R} e k other a =
        let both = and_parts (kept h test) (each_in_block x kept b h && each_in_branches x kept rest h) k in
        let more' = and_parts (each_in_block x kept b h) (each_in_branches x kept rest h) both.1 in
        let after = λ (t : Bool). AheadAll x sort b h Q t × AheadBranches x sort rest h P Q t in
        on_more (does x sort (whole test) h s) (Same after s)
        (λ t. AheadAll x sort b h (Same Q u) t × AheadBranches x sort rest h R (Same Q u) t)
        (λ t c. (
          more_all x sort b h (Same Q t) (Same Q u) (λ v d. from_same Q u t v (c.0 ∙ e) d) t
              (stays_all b h Q t more'.0 c.1.0),
          stays_branches rest h P Q u t {R = R} (c.0 ∙ e) more'.1 other c.1.1,
        ))
        (on_kept (does x sort (whole test) h s) s after (λ t w. whole_kept x sort h test both.0 s t w) a)

    stays_arms : (all : PlainArms) (h : Hold) (Q : Bool → Type 0) (u s : Bool) → s ≡ u
        → each_in_arms x kept all h ≡ true → AheadArms x sort all h Q s → AheadArms x sort all h (Same Q u) s
    stays_arms no_arms h Q u s e k a = a
    stays_arms (arms when' name binds b rest) h Q u s e k a =
        let inner = held_from x (bound_names binds) h in
        let both = and_parts (each_in_block x kept b inner) (each_in_arms x kept rest h) k in (
          more_all x sort b inner (Same Q s) (Same Q u) (λ v d. from_same Q u s v e d) s
              (stays_all b inner Q s both.0 a.0),
          stays_arms rest h Q u s e both.1 a.1,
        )
