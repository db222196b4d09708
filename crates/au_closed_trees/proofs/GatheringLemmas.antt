-- What is gathered stays whole.
use Rattle.std.proofs.Common.{◌≡◌, ℕ, ◌+◌, ◌<◌, Bool, true, false, cond, ◌||◌, ◌⊎◌, List, [], ◌∷◌, ◌++◌, Vec}
use Rattle.std.proofs.Common.{drop, get_or, length, map, refl, sym, ap, ◌∙◌, subst, ⊎_elim}
use Rattle.std.proofs.lemmas.Bool.{or_cases, or_left, or_right}
use Rattle.std.proofs.lemmas.List.{drop_more, map_push}
use Rattle.std.proofs.lemmas.List.Folds.{list_any-append}
use Rattle.std.proofs.lemmas.Slice.Eq.{bytes_eq-Decides}
use Rattle.std.specs.Global.{Global}
use Rattle.std.specs.List.{list_any}
use Rattle.std.specs.Str.{bytes_eq}
use Rattle.au_graphs.specs.Reached.{Has, TellsSame, adds, has, put_new}
use Rattle.au_graphs.proofs.HasLemmas.{adds_both, adds_keeps, adds_takes}
use Rattle.au_types.specs.declared.types.DeclAt.{DeclAt}
use Rattle.au_type_texts.specs.declared.types.Closed.{Closed}
use Rattle.au_type_texts.specs.Keys.{key_of}
use Rattle.au_type_texts.specs.Same.{same}
use Rattle.au_type_texts.specs.Types.{ClosedType, ClosedTypes, named}
use Rattle.au_type_texts.specs.Views.{closed_meaning, closed_meanings}
use Rattle.au_type_texts.proofs.SameLemmas.{same_is, same_self}
use Rattle.au_closed_trees.specs.Gathering.{AreWhole, parts_of}
use Rattle.au_closed_trees.specs.Occurring.{all_occurring, counts_in}

tells : TellsSame same
tells = record { agrees = same_is; itself = same_self }

-- adding what stands there adds nothing
all_there : (ks xs : List ClosedType) → ((x : ClosedType) → Has same xs x → Has same ks x) → adds same ks xs ≡ ks
all_there ks [] each = refl
all_there ks (x ∷ xs) each =
    ap (λ b. adds same (put_new same b ks x) xs) (each x (or_left (same x x) (has same xs x) (same_self x)))
    ∙ all_there ks xs (λ y there. each y (or_right (same y x) (has same xs y) there))

-- what was added is there
pub added_twice : (ks xs : List ClosedType) → adds same (adds same ks xs) xs ≡ adds same ks xs
added_twice ks xs = all_there (adds same ks xs) xs (λ x there. adds_takes same tells ks xs x there)

-- and stays there when more is added
pub still_there : (ks more xs : List ClosedType) → adds same ks xs ≡ ks
    → adds same (adds same ks more) xs ≡ adds same ks more
still_there ks more xs is =
    all_there (adds same ks more) xs (λ x there. adds_keeps same ks more x
    (subst (λ (l : List ClosedType). Has same l x) is (adds_takes same tells ks xs x there)))

pub still_whole : (ks more : List ClosedType) (keys : List (Vec ℕ Global)) → AreWhole ks keys
    → AreWhole (adds same ks more) keys
still_whole ks more keys whole of there = still_there ks more (parts_of of) (whole of there)

-- a key more
pub one_whole : (ks : List ClosedType) (keys : List (Vec ℕ Global)) (key : Vec ℕ Global)
    → ((of : ClosedType) → key.items ≡ key_of of → adds same ks (parts_of of) ≡ ks)
    → AreWhole ks keys
    → AreWhole ks (cond (list_any (λ (k : Vec ℕ Global). bytes_eq key.items k.items) keys) keys
    (keys ++ key ∷ []))
one_whole ks keys key one whole =
    by (list_any (λ (k : Vec ℕ Global). bytes_eq key.items k.items) keys)
  where
    last : (of : ClosedType) → bytes_eq (key_of of) key.items ≡ true ⊎ (false ≡ true)
        → adds same ks (parts_of of) ≡ ks
    last of either = ⊎_elim (λ is. one of (sym ((bytes_eq-Decides (key_of of) key.items).0 is))) (λ is. absurd cc)
        either

    by : (b : Bool) → AreWhole ks (cond b keys (keys ++ key ∷ []))
    by true of there = whole of there
    by false of there =
        ⊎_elim (whole of)
        (λ end. last of (or_cases (bytes_eq (key_of of) key.items) false end))
        (or_cases (list_any (λ (k : Vec ℕ Global). bytes_eq (key_of of) k.items) keys)
        (bytes_eq (key_of of) key.items || false)
        (sym (list_any-append (λ (k : Vec ℕ Global). bytes_eq (key_of of) k.items) keys (key ∷ [])) ∙ there))

-- ---- the steps of the walk

-- a copy is put at the end
pub put_more : (old new : List Closed) (copy : Closed) (of : ClosedType) → new ≡ old ++ copy ∷ []
    → closed_meaning copy ≡ of
    → adds same [] (map closed_meaning new) ≡ adds same (adds same [] (map closed_meaning old)) (of ∷ [])
put_more old new copy of grows is =
    ap (adds same []) (ap (map closed_meaning) grows ∙ map_push closed_meaning old copy
    ∙ ap (λ (t : ClosedType). map closed_meaning old ++ t ∷ []) is)
    ∙ adds_both same [] (map closed_meaning old) (of ∷ [])

-- a type is there with all that occur in it
pub named_whole : (before put after : List ClosedType) (at : DeclAt) (args : ClosedTypes) (of : ClosedType)
    → of ≡ named at args → put ≡ adds same before (of ∷ [])
    → after ≡ adds same put (all_occurring (counts_in true []) args) → adds same after (parts_of of) ≡ after
named_whole before put after at args of is first rest =
    subst (λ (l : List ClosedType). adds same l (parts_of of) ≡ l) (sym whole) (added_twice before (parts_of of))
  where
    parts : List ClosedType
    parts = all_occurring (counts_in true []) args

    whole : after ≡ adds same before (parts_of of)
    whole =
        rest ∙ ap (λ l. adds same l parts) (first ∙ ap (λ (t : ClosedType). adds same before (t ∷ [])) is)
        ∙ sym (adds_both same before (named at args ∷ []) parts)
        ∙ ap (λ (t : ClosedType). adds same before (parts_of t)) (sym is)

-- one type more of a list
pub one_more : (items : List Closed) (i : ℕ) (item : Closed) (found more whole : List ClosedType)
    → i < length items → item ≡ get_or items i item → more ≡ adds same found (parts_of (closed_meaning item))
    → adds same found (all_occurring (counts_in true []) (closed_meanings (drop i items))) ≡ whole
    → adds same more (all_occurring (counts_in true []) (closed_meanings (drop (i + 1) items))) ≡ whole
one_more items i item found more whole below here grows so_far =
    let rest = all_occurring (counts_in true []) (closed_meanings (drop (i + 1) items)) in
    ap (λ l. adds same l rest) grows
    ∙ sym (adds_both same found (parts_of (closed_meaning item)) rest)
    ∙ ap (λ (x : Closed). adds same found (parts_of (closed_meaning x) ++ rest)) here
    ∙ sym (ap (λ (l : List Closed). adds same found (all_occurring (counts_in true []) (closed_meanings l)))
    (drop_more items i item below))
    ∙ so_far
