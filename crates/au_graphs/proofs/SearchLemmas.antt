-- The steps of a search.
use Rattle.std.proofs.Common.{◌≡◌, ℕ, Bool, true, false, List, [], ◌∷◌, ◌++◌, get_or, set, refl, sym, ◌∙◌}
use Rattle.std.proofs.Common.{subst, inl, inr, ⊎_elim, arith}
use Rattle.std.specs.Prelude.{◌⊎◌, ◌↔◌, Contains}
use Rattle.std.proofs.lemmas.Bool.{both_ways}
use Rattle.std.proofs.lemmas.List.{length_push}
use Rattle.std.proofs.lemmas.List.Elements.{Contains-append_left, Contains-append_right}
use Rattle.std.proofs.lemmas.List.Elements.{Contains-append_cases, Contains-push, Contains-push_cases}
use Rattle.au_base.proofs.ListLemmas.{nothing_there}
use Rattle.au_graphs.specs.Cycles.{successors, Names, Leads, directly, onward, IsOnCycle}
use Rattle.au_graphs.specs.Marks.{IsMarked, IsClosed, Entered}
use Rattle.au_graphs.proofs.CycleLemmas.{one_more}
use Rattle.au_graphs.proofs.MarkLemmas.{set_here, set_stays, set_only, set_left}

-- one thing is in a list of one
contains_one : (y x : ℕ) → Contains (y ∷ []) x → x ≡ y
contains_one y x is = ⊎_elim (λ none. absurd (nothing_there x none)) (λ same. sym same)
    (Contains-push_cases [] y x is)

pub entered_none : (seen : List Bool) (work : List ℕ) → Entered [] seen work seen work
entered_none seen work = record {
  stay = λ a marked. marked;
  enters = λ a is. absurd (nothing_there a is);
  only = λ a marked. inl marked;
  kept = λ a is. is;
  added = λ a is. inl is;
  waits = λ a marked. inl marked;
  left = refl;
}

pub entered_seen : (seen : List Bool) (work : List ℕ) (node : ℕ) → IsMarked seen node →
    Entered (node ∷ []) seen work seen work
entered_seen seen work node known = record {
  stay = λ a marked. marked;
  enters = λ a is. subst (IsMarked seen) (sym (contains_one node a is)) known;
  only = λ a marked. inl marked;
  kept = λ a is. is;
  added = λ a is. inl is;
  waits = λ a marked. inl marked;
  left = refl;
}

pub entered_new : (seen : List Bool) (work : List ℕ) (node : ℕ) → get_or seen node true ≡ false →
    Entered (node ∷ []) seen work (set seen node true) (work ++ node ∷ [])
entered_new seen work node new = record {
  stay = λ a marked. set_stays seen node a marked;
  enters = λ a is. subst (IsMarked (set seen node true)) (sym (contains_one node a is)) (set_here seen node);
  only = λ a marked.
      ⊎_elim (λ same. inr (subst (Contains (node ∷ [])) (sym same) (Contains-push [] node)))
      (λ before. inl before) (set_only seen node a marked);
  kept = λ a is. Contains-append_left work (node ∷ []) a is;
  added = λ a is. Contains-append_cases work (node ∷ []) a is;
  waits = λ a marked.
      ⊎_elim (λ same. inr (subst (Contains (work ++ node ∷ [])) (sym same) (Contains-push work node)))
      (λ before. inl before) (set_only seen node a marked);
  left = let less = set_left seen node new in let more = length_push work node in omega (arith, less, more);
}

module _ (xs ys : List ℕ) (seen : List Bool) (work : List ℕ) (between : List Bool) (middle : List ℕ)
    (now : List Bool) (list : List ℕ) where
  pub entered_both : Entered xs seen work between middle → Entered ys between middle now list →
      Entered (xs ++ ys) seen work now list
  entered_both first second = record {
    stay = λ a marked. second.stay a (first.stay a marked);
    enters = λ a is.
        ⊎_elim (λ one. second.stay a (first.enters a one)) (λ other. second.enters a other)
        (Contains-append_cases xs ys a is);
    only = λ a marked.
        ⊎_elim
        (λ before. ⊎_elim (λ old. inl old) (λ one. inr (Contains-append_left xs ys a one)) (first.only a before))
        (λ other. inr (Contains-append_right xs ys a other))
        (second.only a marked);
    kept = λ a is. second.kept a (first.kept a is);
    added = λ a is.
        ⊎_elim
        (λ before. ⊎_elim (λ old. inl old) (λ one. inr (Contains-append_left xs ys a one)) (first.added a before))
        (λ other. inr (Contains-append_right xs ys a other))
        (second.added a is);
    waits = λ a marked.
        ⊎_elim
        (λ before. ⊎_elim (λ old. inl old) (λ waiting. inr (second.kept a waiting)) (first.waits a before))
        (λ waiting. inr waiting)
        (second.waits a marked);
    left = second.left ∙ first.left;
  }

-- A search from k: what it has marked, besides what is done, is led to from k, and so is what waits; and each
-- node that was met waits, or all its successors were met.
pub record Searched (graph : List (List ℕ)) (done : List Bool) (k : ℕ) (seen : List Bool) (work : List ℕ) : Type 0 where
  pub led : (a : ℕ) → IsMarked seen a → IsMarked done a ⊎ Leads graph k a
  pub waits : (a : ℕ) → Contains work a → (a ≡ k) ⊎ Leads graph k a
  pub closed : (a : ℕ) → (a ≡ k) ⊎ IsMarked seen a → Contains work a ⊎ ((b : ℕ) → Names graph a b → IsMarked seen b)

pub searched_start : (graph : List (List ℕ)) (done : List Bool) (k : ℕ) → IsClosed graph done →
    Searched graph done k done (k ∷ [])
searched_start graph done k closed = record {
  led = λ a marked. inl marked;
  waits = λ a is. inl (contains_one k a is);
  closed = λ a met.
      ⊎_elim (λ same. inl (subst (Contains (k ∷ [])) (sym same) (Contains-push [] k)))
      (λ marked. inr (λ b names. closed a b marked names)) met;
}

module _ (graph : List (List ℕ)) (done : List Bool) (k : ℕ) (seen : List Bool) (rest : List ℕ) (node : ℕ)
    (now : List Bool) (list : List ℕ) where
  -- an edge from a node that waited
  edge : Searched graph done k seen (rest ++ node ∷ []) → (a : ℕ) → Names graph node a → Leads graph k a
  edge before a names =
      ⊎_elim
      (λ same. directly k a (subst (λ x. Names graph x a) same names))
      (λ leads. one_more graph k node a leads names)
      (before.waits node (Contains-push rest node))

  pub searched_more : Searched graph done k seen (rest ++ node ∷ []) → Entered (successors graph node) seen
      rest now list → Searched graph done k now list
  searched_more before step = record {
    led = λ a marked. ⊎_elim (λ old. before.led a old) (λ names. inr (edge before a names)) (step.only a marked);
    waits = λ a is.
        ⊎_elim (λ old. before.waits a (Contains-append_left rest (node ∷ []) a old))
        (λ names. inr (edge before a names)) (step.added a is);
    closed = λ a met.
        let old : (a ≡ k) ⊎ IsMarked seen a → Contains list a ⊎ ((b : ℕ) → Names graph a b → IsMarked now b) =
        λ met. ⊎_elim
        (λ waited. ⊎_elim
        (λ waits. inl (step.kept a waits))
        (λ same. inr (λ b names. step.enters b (subst (λ x. Names graph x b) (sym same) names)))
        (Contains-push_cases rest node a waited))
        (λ all. inr (λ b names. step.stay b (all b names)))
        (before.closed a met) in
        ⊎_elim (λ same. old (inl same))
        (λ marked. ⊎_elim (λ before. old (inr before)) (λ waits. inl waits) (step.waits a marked)) met;
  }

-- where nothing waits, all that k leads to was met
all_met : (graph : List (List ℕ)) (done : List Bool) (k : ℕ) (seen : List Bool) (a c : ℕ) →
    Searched graph done k seen [] → (a ≡ k) ⊎ IsMarked seen a → Leads graph a c → IsMarked seen c
all_met graph done k seen a c searched met (directly x y names) =
    ⊎_elim (λ waits. absurd (nothing_there x waits)) (λ all. all y names) (searched.closed x met)
all_met graph done k seen a c searched met (onward x b y names rest) =
    ⊎_elim
    (λ waits. absurd (nothing_there x waits))
    (λ all. all_met graph done k seen b y searched (inr (all b names)) rest)
    (searched.closed x met)

pub searched_end : (graph : List (List ℕ)) (done : List Bool) (k : ℕ) (seen : List Bool) (work : List ℕ)
    (found : Bool) → Searched graph done k seen work → work ≡ [] → get_or done k true ≡ false →
    found ≡ get_or seen k true → (found ≡ true) ↔ IsOnCycle graph k
searched_end graph done k seen work found searched none new is =
    let all = subst (Searched graph done k seen) none searched in (
      λ yes. ⊎_elim (λ known. absurd (both_ways (get_or done k true) new known)) (λ leads. leads)
          (all.led k (sym is ∙ yes)),
      λ leads. is ∙ all_met graph done k seen k k all (inl refl) leads,
    )
