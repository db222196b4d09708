-- Marks of indices.
use Rattle.std.proofs.Common.{◌≡◌, ℕ, ◌+◌, ◌<◌, ◌≤◌, ◌⊎◌, inl, inr, Bool, true, false, List, [], ◌∷◌, ◌++◌}
use Rattle.std.proofs.Common.{length, take, get_or, set, Option, None, Some, replicate, refl, sym, ap, ◌∙◌}
use Rattle.std.proofs.Common.{subst, arith}
use Rattle.std.specs.Prelude.{◌||◌, slice_index_or, slice_set}
use lib.Dec.{eqb}
use Rattle.std.proofs.lemmas.Bool.Decides.{eqb_tells}
use Rattle.std.proofs.lemmas.List.{take_more, take_all, get_or-replicate, get_or-set_same, get_or-set_other}
use Rattle.std.proofs.lemmas.List.{length-replicate, length-set}
use Rattle.std.proofs.lemmas.List.Folds.{list_any-append}
use Rattle.au_base.proofs.BoolLemmas.{or_false}
use Rattle.au_classes.specs.Indices.{is_among, is_index, with_mark, MarkAmong}

-- So many marks are set as stand for some indices.
pub record MarkSoFar (some : List (Option ℕ)) (count : ℕ) (marks : List Bool) : Type 0 where
  pub many : length marks ≡ count
  pub marked : MarkAmong some count marks

or_true : (b : Bool) → (b || true) ≡ true
or_true true = refl
or_true false = refl

pub none_marked : (count : ℕ) (marks : List Bool) → marks ≡ replicate count false → MarkSoFar [] count marks
none_marked count marks none = record {
  many = ap length none ∙ length-replicate count false;
  marked = λ index within. ap (λ ms. get_or ms index false) none ∙ get_or-replicate count index false false within;
}

among_more : (some : List (Option ℕ)) (one : Option ℕ) (index : ℕ) → is_among index (some ++ one ∷ [])
    ≡ (is_among index some || is_index index one)
among_more some one index =
    list_any-append (is_index index) some (one ∷ []) ∙ ap (λ b. is_among index some || b)
    (or_false (is_index index one))

-- one more index is marked
mark_more : (some : List (Option ℕ)) (count : ℕ) (marks : List Bool) (one : Option ℕ) →
    MarkSoFar some count marks → MarkSoFar (some ++ one ∷ []) count (with_mark marks one)
mark_more some count marks None old = record {
  many = old.many;
  marked = λ index within. old.marked index within ∙ sym (among_more some None index ∙ or_false (is_among index some));
}
mark_more some count marks (Some j) old = record {
  many = set_length marks j ∙ old.many;
  marked = λ index within. by index within (eqb_tells index j);
}
  where
    set_length : (ms : List Bool) (k : ℕ) → length (set ms k true) ≡ length ms
    set_length ms k = length-set ms k true

    by : (index : ℕ) → index < count → ((eqb index j ≡ true) × (index ≡ j)) ⊎ ((eqb index j ≡ false) × (index ≡ j → ⊥))
        → slice_index_or (slice_set marks j true) index false ≡ is_among index (some ++ Some j ∷ [])
    by index within (inl same) =
        let inside : j < length marks = omega (arith, within, same.1, old.many) in
        ap (λ k. get_or (set marks j true) k false) same.1
        ∙ get_or-set_same marks j true false inside
        ∙ sym (among_more some (Some j) index ∙ ap (λ b. is_among index some || b) same.0
        ∙ or_true (is_among index some))
    by index within (inr other) =
        get_or-set_other marks j index true false other.1
        ∙ old.marked index within
        ∙ sym (among_more some (Some j) index ∙ ap (λ b. is_among index some || b) other.0
        ∙ or_false (is_among index some))

-- the next index is marked
pub mark_next : (items : List (Option ℕ)) (count : ℕ) (before after : List Bool) (i : ℕ) (one d : Option ℕ) →
    i < length items → one ≡ get_or items i d
    → MarkSoFar (take i items) count before → after ≡ with_mark before one → MarkSoFar (take (i + 1) items) count after
mark_next items count before after i one d within here old new =
    let more : MarkSoFar (take i items ++ one ∷ []) count (with_mark before one) =
    mark_more (take i items) count before one old in
    subst (λ ms. MarkSoFar (take (i + 1) items) count ms) (sym new)
    (subst (λ xs. MarkSoFar xs count (with_mark before one))
    (ap (λ x. take i items ++ x ∷ []) here ∙ sym (take_more items i d within)) more)

-- all are marked
pub mark_all : (all items : List (Option ℕ)) (count : ℕ) (marks : List Bool) (i : ℕ) → items ≡ all →
    length items ≤ i → MarkSoFar (take i items) count marks → MarkAmong all count marks
mark_all all items count marks i same past old = subst (λ xs. MarkAmong xs count marks)
    (take_all i items past ∙ same) old.marked
