-- Labels that are put at nodes.
use Rattle.std.proofs.Common.{◌≡◌, ℕ, ◌+◌, ◌<◌, ◌≤◌, List, [], ◌∷◌, ◌++◌, length, replicate, refl}
use Rattle.std.proofs.Common.{sym, ap, ◌∙◌, subst, inl, inr, ⊎_elim, arith, length-set}
use Rattle.std.specs.Prelude.{◌⊎◌, ◌↔◌, ◌≢◌, Contains}
use Rattle.std.proofs.lemmas.Bool.{cases_eq, cases_lt}
use Rattle.std.proofs.lemmas.List.{get_or-replicate, get_or-set_other, get_or-set_same, length-replicate}
use Rattle.std.proofs.lemmas.List.Elements.{Contains-append_left, Contains-push, Contains-push_cases}
use Rattle.au_base.proofs.ListLemmas.{nothing_there}
use Rattle.au_graphs.specs.Cycles.{successors, Names, with_edge}
use Rattle.au_graphs.proofs.CycleLemmas.{past_names}
use Rattle.au_caps_text.specs.Putting.{IsPut}
use Rattle.au_caps_text.specs.Turning.{IsFrom}

-- ---- one more edge

module _ (graph : List (List ℕ)) (k l : ℕ) (below : k < length graph) where
  -- the successors of the node that it leads from
  here : successors (with_edge graph k l) k ≡ successors graph k ++ l ∷ []
  here = get_or-set_same graph k (successors graph k ++ l ∷ []) [] below

  -- those of another
  other : (a : ℕ) → a ≢ k → successors (with_edge graph k l) a ≡ successors graph a
  other a apart = get_or-set_other graph k a (successors graph k ++ l ∷ []) [] apart

  pub edge_stays : (a b : ℕ) → Names graph a b → Names (with_edge graph k l) a b
  edge_stays a b names =
      ⊎_elim
      (λ same. subst (λ x. Names (with_edge graph k l) x b) (sym same)
      (subst (λ xs. Contains xs b) (sym here)
      (Contains-append_left (successors graph k) (l ∷ []) b (subst (λ x. Names graph x b) same names))))
      (λ apart. subst (λ xs. Contains xs b) (sym (other a apart)) names)
      (cases_eq a k)

  pub edge_new : Names (with_edge graph k l) k l
  edge_new = subst (λ xs. Contains xs l) (sym here) (Contains-push (successors graph k) l)

  pub edge_only : (a b : ℕ) → Names (with_edge graph k l) a b → Names graph a b ⊎ ((b ≡ l) × (a ≡ k))
  edge_only a b names =
      ⊎_elim
      (λ same. ⊎_elim
      (λ old. inl (subst (λ x. Names graph x b) (sym same) old))
      (λ new. inr (sym new, same))
      (Contains-push_cases (successors graph k) l b
      (subst (λ xs. Contains xs b) here (subst (λ x. Names (with_edge graph k l) x b) same names))))
      (λ apart. inl (subst (λ xs. Contains xs b) (other a apart) names))
      (cases_eq a k)

-- ---- nodes in order

-- something holds of a node below a number
abbrev pub Below : (ℕ → Type 0) → ℕ → ℕ → Type 0
Below Holds k a = (a < k) × Holds a

module _ (Holds : ℕ → Type 0) (label : ℕ) (graph : List (List ℕ)) where
  pub put_none : IsPut (Below Holds 0) label graph graph
  put_none = record {
    size = refl;
    stays = λ a l names. names;
    put = λ a lt holds. let no : a < 0 = holds.0 in absurd (omega arith);
    only = λ a l names. inl names;
  }

  module _ (k : ℕ) (made : List (List ℕ)) (before : IsPut (Below Holds k) label graph made) (below : k < length graph) where
    within : k < length made
    within = let size = before.size in omega arith

    pub put_more : Holds k → IsPut (Below Holds (k + 1)) label graph (with_edge made k label)
    put_more holds = record {
      size = length-set made k (successors made k ++ label ∷ []) ∙ before.size;
      stays = λ a l names. edge_stays made k label within a l (before.stays a l names);
      put = λ a lt is.
          ⊎_elim
          (λ same. subst (λ x. Names (with_edge made k label) x label) (sym same) (edge_new made k label within))
          (λ apart. let less : a < k + 1 = is.0 in
          edge_stays made k label within a label (before.put a lt (omega arith, is.1)))
          (cases_eq a k);
      only = λ a l names.
          ⊎_elim
          (λ old. ⊎_elim (λ was. inl was) (λ is. inr (is.0, (omega (arith, is.1.0), is.1.1))) (before.only a l old))
          (λ new. inr (new.0, (omega (arith, new.1), subst Holds (sym new.1) holds)))
          (edge_only made k label within a l names);
    }

    pub put_past : (Holds k → ⊥) → IsPut (Below Holds (k + 1)) label graph made
    put_past fails = record {
      size = before.size;
      stays = before.stays;
      put = λ a lt is.
          ⊎_elim
          (λ same. absurd (fails (subst Holds same is.1)))
          (λ apart. let less : a < k + 1 = is.0 in before.put a lt (omega arith, is.1))
          (cases_eq a k);
      only = λ a l names.
          ⊎_elim (λ was. inl was) (λ is. inr (is.0, (omega (arith, is.1.0), is.1.1))) (before.only a l names);
    }

  pub put_all : (k : ℕ) (made : List (List ℕ)) → length graph ≤ k → IsPut (Below Holds k) label graph made →
      IsPut Holds label graph made
  put_all k made past before = record {
    size = before.size;
    stays = before.stays;
    put = λ a lt is. before.put a lt (omega arith, is);
    only = λ a l names. ⊎_elim (λ was. inl was) (λ is. inr (is.0, is.1.1)) (before.only a l names);
  }

-- ---- labels in order

-- A label comes to a node: a node that has the label is this one or leads to it.
abbrev pub Comes : List (List ℕ) → List (List ℕ) → ℕ → ℕ → Type 0
Comes graph labels a l = IsFrom graph (successors labels l) a

-- The labels below a number have spread.
pub record SpreadTo (graph labels made : List (List ℕ)) (k : ℕ) : Type 0 where
  pub size : length made ≡ length graph
  pub each : (a l : ℕ) → a < length graph → Names made a l ↔ ((l < k) × Comes graph labels a l)

-- without an edge nothing is named
none_named : (n : ℕ) (made : List (List ℕ)) → made ≡ replicate n [] → (a b : ℕ) → Names made a b → ⊥
none_named n made is a b names =
    let there = subst (λ (g : List (List ℕ)). Names g a b) is names in
    let long : length (replicate {A = List ℕ} n []) ≡ n = length-replicate n [] in
    ⊎_elim
    (λ below. nothing_there b (subst (λ (xs : List ℕ). Contains xs b) (get_or-replicate n a [] [] below) there))
    (λ past. let far : length (replicate {A = List ℕ} n []) ≤ a = omega arith in
    past_names (replicate n []) a b far there) (cases_lt a n)

pub spread_start : (graph labels made : List (List ℕ)) (n : ℕ) → n ≡ length graph → made ≡ replicate n [] →
    SpreadTo graph labels made 0
spread_start graph labels made n size is = record {
  size = ap (λ (g : List (List ℕ)). length g) is ∙ length-replicate n [] ∙ size;
  each = λ a l lt. (
    λ names. absurd (none_named n made is a l names),
    λ p. let no : l < 0 = p.0 in absurd (omega arith),
  );
}

module _ (graph labels made next : List (List ℕ)) (k : ℕ) (Holds : ℕ → Type 0) where
  pub spread_more : SpreadTo graph labels made k → ((a : ℕ) → a < length graph → Holds a
      ↔ IsFrom graph (successors labels k) a) →
      IsPut Holds k made next → SpreadTo graph labels next (k + 1)
  spread_more before marks put = record {
    size = put.size ∙ before.size;
    each = λ a l lt. (
      λ names. ⊎_elim
          (λ old. let is = (before.each a l lt).0 old in (omega (arith, is.0), is.1))
          (λ new. let same : l ≡ k = new.0 in (
            omega arith,
            subst (λ x. Comes graph labels a x) (sym same) ((marks a lt).0 new.1),
          ))
          (put.only a l names),
      λ is. ⊎_elim
          (λ same. subst (λ x. Names next a x) (sym same)
          (put.put a (let size = before.size in omega arith)
          ((marks a lt).1 (subst (λ x. Comes graph labels a x) same is.1))))
          (λ apart. let less : l < k + 1 = is.0 in
          put.stays a l ((before.each a l lt).1 (omega arith, is.1)))
          (cases_eq l k),
    );
  }

pub spread_all : (graph labels made : List (List ℕ)) (k : ℕ) → length labels ≤ k → SpreadTo graph labels made k →
    (a l : ℕ) → a < length graph → Names made a l ↔ Comes graph labels a l
spread_all graph labels made k past before a l lt = (
  λ names. ((before.each a l lt).0 names).1,
  λ comes. (before.each a l lt).1 (
    ⊎_elim (λ below. below)
        (λ above. let far : length labels ≤ l = omega arith in absurd (past_names labels l comes.0 far comes.1))
        (cases_lt l k),
    comes,
  ),
)
