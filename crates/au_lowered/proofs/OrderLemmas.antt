-- Arguments in declared order: the meaning finds them by position or by label, and the code by their
-- numbers.
use Rattle.std.proofs.Common.{◌≡◌, ◌≢◌, ℕ, suc, ◌+◌, ◌<◌, Bool, true, false, cond, not, if◌then◌else◌, ◌==◌}
use Rattle.std.proofs.Common.{List, [], ◌∷◌, ◌++◌, length, map, Option, Some, None, refl, sym, ap, ap₂, subst}
use Rattle.std.proofs.Common.{◌∙◌, arith, slice_get, set, true≢false, eqb-true, eq-eqb, append_assoc}
use Rattle.std.specs.Prelude.{option_map}
use Rattle.std.specs.List.{find, position_or_len}
use Rattle.std.specs.Str.{bytes_eq}
use Rattle.std.proofs.lemmas.List.{length-map, set_at, length-append}
use Rattle.std.proofs.lemmas.Option.{slice_get-map, slice_get_within}
use Rattle.std.proofs.lemmas.Slice.Eq.{bytes_eq-Decides}
use Rattle.au_effects.specs.Parts.{along}
use Rattle.au_low.specs.Machines.{Low, arguments_at, ordered, ordered_if, still_there}
use Rattle.au_lowered.specs.Expressions.{numbers_from, unless_declared}
use Rattle.au_lowered.specs.Expressions as code
use Rattle.au_meaning.specs.Acts as acts
use Rattle.au_meaning.specs.Acts.{labelled_value, labelled_values}
use Rattle.au_meaning.specs.Expressions.{labelled}
use Rattle.au_meaning.specs.Worlds.{Value}
use Rattle.au_syntax.specs.Plain.{Bytes}
use Rattle.au_lowered.specs.Sides.{Coding, Both, meant, ran, all_meant, all_ran}
use Rattle.au_lowered.proofs.FrameLemmas.{get_at, set_other}
use Rattle.au_lowered.specs.Premises.{Lacks, Once}

-- ---- positions

pub numbers_length : {A : Type 0} (n : ℕ) (names : List A) → length (numbers_from n names) ≡ length names
numbers_length n [] = refl
numbers_length n (name ∷ rest) = ap suc (numbers_length (n + 1) rest)

in_positions : {A : Type 0} (done : List (Option Low)) (names : List A) (values : List Low) → length names
    ≡ length values
    → arguments_at (numbers_from (length done) names) (done ++ map (λ (one : Low). Some one) values)
    ≡ Some values
in_positions done [] [] e = refl
in_positions done [] (value ∷ values) e = absurd (omega (arith, e))
in_positions done (name ∷ names) [] e = absurd (omega (arith, e))
in_positions done (name ∷ names) (value ∷ values) e =
    let n = length done in
    let rest = map (λ (one : Low). Some one) values in
    let left = done ++ Some value ∷ rest in
    let more : length (done ++ None ∷ []) ≡ n + 1 = omega (arith, length-append done (None ∷ [])) in
    let next : arguments_at (numbers_from (n + 1) names) (set left n None) ≡ Some values =
    ap (λ all. arguments_at (numbers_from (n + 1) names) all) (set_at done (Some value) rest None n refl
    ∙ sym (append_assoc done (None ∷ []) rest))
    ∙ subst (λ k. arguments_at (numbers_from k names) ((done ++ None ∷ []) ++ rest)
    ≡ Some values) more (in_positions (done ++ None ∷ []) names values (omega (arith, e))) in
    ap (λ o. along (still_there o) (λ v. along (arguments_at (numbers_from (n + 1) names) (set left n None))
    (λ others. Some (v ∷ others)))) (get_at done (Some value) rest n refl)
    ∙ ap (λ o. along o (λ others. Some (value ∷ others))) next

pub positions_ordered : {A : Type 0} (names : List A) (values : List Low) → length names ≡ length values
    → ordered (numbers_from 0 names) values ≡ Some values
positions_ordered names values e =
    ap (λ b. if b then arguments_at (numbers_from 0 names) (map (λ (one : Low). Some one) values) else None)
    (eq-eqb (length (numbers_from 0 names)) (length values) (numbers_length 0 names ∙ e))
    ∙ in_positions [] names values e

-- ---- labels

-- the place of the label of a name
abbrev pub place_in : List Bytes → Bytes → ℕ
place_in labels name = position_or_len (λ label. bytes_eq label name) labels

-- a name that has a label is the label that stands at its place
label_is : (labels : List Bytes) (name : Bytes) → place_in labels name < length labels
    → slice_get labels (place_in labels name) ≡ Some name
label_is [] name h = absurd (omega (arith, h))
label_is (label ∷ labels) name h = by_test (bytes_eq label name) refl (label_is labels name) h
  where
    by_test : (b : Bool) → bytes_eq label name ≡ b
        → (place_in labels name < length labels → slice_get labels (place_in labels name) ≡ Some name)
        → place_in (label ∷ labels) name < length (label ∷ labels)
        → slice_get (label ∷ labels) (place_in (label ∷ labels) name) ≡ Some name
    by_test true e ih h =
        let same : label ≡ name = (bytes_eq-Decides label name).0 e in
        let at : place_in (label ∷ labels) name ≡ 0 = ap (λ b. cond (not b) (1 + place_in labels name) 0) e
        in
        ap (λ n. slice_get (label ∷ labels) n) at ∙ ap (λ l. Some l) same
    by_test false e ih h =
        let n = place_in labels name in
        let at : place_in (label ∷ labels) name ≡ 1 + n = ap (λ b. cond (not b) (1 + n) 0) e in
        let more : 1 + n ≡ suc n = omega arith in
        ap (λ k. slice_get (label ∷ labels) k) (at ∙ more) ∙ ih (omega (arith, h, at))

module _ (by : Coding) (labels : List Bytes) where
  labelled_length : (labels : List Bytes) (vs : List (Both by)) → length labels ≡ length vs
      → length (labelled labels (all_meant by vs)) ≡ length labels
  labelled_length [] vs e = refl
  labelled_length (label ∷ labels) [] e = absurd (omega (arith, e))
  labelled_length (label ∷ labels) (v ∷ vs) e = ap suc (labelled_length labels vs (omega (arith, e)))

  -- the value under a label
  value_at : (labels : List Bytes) (vs : List (Both by)) (name : Bytes) → length labels ≡ length vs
      → labelled_value (labelled labels (all_meant by vs)) name
      ≡ option_map (meant by) (slice_get vs (place_in labels name))
  value_at [] [] name e = refl
  value_at [] (v ∷ vs) name e = absurd (omega (arith, e))
  value_at (label ∷ labels) [] name e = absurd (omega (arith, e))
  value_at (label ∷ labels) (v ∷ vs) name e = by_test (bytes_eq label name) refl (value_at labels vs name
      (omega (arith, e)))
    where
      by_test : (b : Bool) → bytes_eq label name ≡ b
          → labelled_value (labelled labels (all_meant by vs)) name
          ≡ option_map (meant by) (slice_get vs (place_in labels name))
          → labelled_value (labelled (label ∷ labels) (all_meant by (v ∷ vs))) name
          ≡ option_map (meant by) (slice_get (v ∷ vs) (place_in (label ∷ labels) name))
      by_test true b ih =
          ap (λ t. along (cond t (Some (label, meant by v)) (find (λ (one : Bytes
          × Value). bytes_eq one.0 name) (labelled labels (all_meant by vs)))) (λ one. Some one.1)) b
          ∙ ap (λ t. option_map (meant by) (slice_get (v ∷ vs) (cond (not t) (1 + place_in labels name) 0)))
          (sym b)
      by_test false b ih =
          let n = place_in labels name in
          let more : 1 + n ≡ suc n = omega arith in
          ap (λ t. along (cond t (Some (label, meant by v)) (find (λ (one : Bytes
          × Value). bytes_eq one.0 name) (labelled labels (all_meant by vs)))) (λ one. Some one.1)) b
          ∙ ih
          ∙ ap (λ k. option_map (meant by) (slice_get (v ∷ vs) k)) (sym more)
          ∙ ap (λ t. option_map (meant by) (slice_get (v ∷ vs) (cond (not t) (1 + n) 0))) (sym b)

  module _ (vs : List (Both by)) (many : length labels ≡ length vs) where
    -- the arguments of these names are still there
    abbrev pub Left : List Bytes → List (Option Low) → Type 0
    Left [] left = Unit {0}
    Left (name ∷ rest) left =
        (still_there (slice_get left (place_in labels name))
        ≡ option_map (ran by) (slice_get vs (place_in labels name)))
        × Left rest left

    -- another one is taken
    left_other : (name : Bytes) (names : List Bytes) (left : List (Option Low))
        → place_in labels name < length labels
        → Lacks name names → Left names left → Left names (set left (place_in labels name) None)
    left_other name [] left within lacks h = tt
    left_other name (other ∷ rest) left within lacks h =
        let apart : place_in labels other ≢ place_in labels name = λ e.
        let here = label_is labels name within in
        let there = label_is labels other (subst (λ n. n < length labels) (sym e) within) in
        let same : name ≡ other = cc in
        true≢false (sym ((bytes_eq-Decides name other).1 same) ∙ lacks.0) in (
          ap (λ o. still_there o) (set_other left (place_in labels other) (place_in labels name) None apart)
              ∙ h.0,
          left_other name rest left within lacks.1 h.1,
        )

    -- what is found of both
    pub record InOrder (xs : List Value) (order : Option (List Low)) (count : ℕ) : Type 0 where
      pub args : List (Both by)
      pub counted : length args ≡ count
      pub are : xs ≡ all_meant by args
      pub ordered_are : order ≡ Some (all_ran by args)

    found_all : (names : List Bytes) (left : List (Option Low)) (xs : List Value) → Once names
        → Left names left
        → labelled_values (labelled labels (all_meant by vs)) names ≡ Some xs
        → InOrder xs (arguments_at (map (λ name. place_in labels name) names) left) (length names)
    found_all [] left xs once h e = record { args = []; counted = refl; are = cc; ordered_are = refl }
    found_all (name ∷ names) left xs once h e =
        by_value (slice_get vs (place_in labels name)) refl
        (labelled_values (labelled labels (all_meant by vs)) names) refl
        (λ within ys found. found_all names (set left (place_in labels name) None) ys once.1 (left_other
        name names left within once.0 h.1) found)
      where
        by_value : (o : Option (Both by)) → slice_get vs (place_in labels name) ≡ o
            → (rest : Option (List Value)) → labelled_values (labelled labels (all_meant by vs)) names
            ≡ rest
            → (place_in labels name < length labels → (ys : List Value)
            → labelled_values (labelled labels (all_meant by vs)) names ≡ Some ys
            → InOrder ys (arguments_at (map (λ name. place_in labels name) names) (set left (place_in
            labels name) None)) (length names))
            → InOrder xs (arguments_at (map (λ name. place_in labels name) (name ∷ names)) left) (length
            (name ∷ names))
        by_value None a rest b ih =
            let none : labelled_value (labelled labels (all_meant by vs)) name
            ≡ None = value_at labels vs name many ∙ ap (λ o. option_map (meant by) o) a in
            let nothing : None ≡ Some xs = sym (ap (λ o. along o (λ value. along (labelled_values (labelled
            labels (all_meant by vs)) names) (λ more. Some (value ∷ more)))) none) ∙ e in
            absurd (grind arith)
        by_value (Some v) a None b ih =
            let some : labelled_value (labelled labels (all_meant by vs)) name
            ≡ Some (meant by v) = value_at labels vs name many ∙ ap (λ o. option_map (meant by) o) a in
            let nothing : None ≡ Some xs = sym (ap₂ (λ o r. along o (λ value. along r (λ more. Some (value ∷
            more)))) some b) ∙ e in
            absurd (grind arith)
        by_value (Some v) a (Some ys) b ih =
            let some : labelled_value (labelled labels (all_meant by vs)) name
            ≡ Some (meant by v) = value_at labels vs name many ∙ ap (λ o. option_map (meant by) o) a in
            let both : Some (meant by v ∷ ys) ≡ Some xs = sym (ap₂ (λ o r. along o (λ value. along r (λ
            more. Some (value ∷ more)))) some b) ∙ e in
            let within : place_in labels name < length labels = omega (
              arith,
              slice_get_within vs (place_in
                  labels name) v a,
              many,
            ) in
            let rest = ih within ys b in
            let is : meant by v ∷ ys ≡ xs = cc in
            record {
              args = v ∷ rest.args;
              counted = ap suc rest.counted;
              are = sym is ∙ ap (λ more. meant by v ∷ more) rest.are;
              ordered_are =
                  ap (λ o. along o (λ value. along (arguments_at (map (λ name. place_in labels name) names)
                  (set left (place_in labels name) None)) (λ more. Some (value ∷ more)))) (h.0
                  ∙ ap (λ o. option_map (ran by) o) a)
                  ∙ ap (λ o. along o (λ more. Some (ran by v ∷ more))) rest.ordered_are;
            }

    left_first : (names : List Bytes) → Left names (map (λ (one : Low). Some one) (all_ran by vs))
    left_first [] = tt
    left_first (name ∷ names) = (
      ap (λ o. still_there o) (slice_get-map (λ (one : Low). Some one) (all_ran by vs) (place_in labels
          name))
          ∙ there (slice_get (all_ran by vs) (place_in labels name))
          ∙ slice_get-map (ran by) vs (place_in labels name),
      left_first names,
    )
      where
        there : (o : Option Low) → still_there (option_map (λ (one : Low). Some one) o) ≡ o
        there None = refl
        there (Some one) = refl

    pub labels_ordered : (names : List Bytes) (xs : List Value) → Once names
        → acts.by_labels (labelled labels (all_meant by vs)) names ≡ Some xs
        → (length vs ≡ length names) × InOrder xs (ordered (code.by_labels labels names) (all_ran by vs))
        (length names)
    labels_ordered names xs once e = by_count (length (labelled labels (all_meant by vs)) == length names)
        refl
      where
        by_count : (b : Bool) → (length (labelled labels (all_meant by vs)) == length names) ≡ b
            → (length vs ≡ length names) × InOrder xs (ordered (code.by_labels labels names) (all_ran by
            vs)) (length names)
        by_count false a =
            let nothing : None ≡ Some xs = sym (ap (λ b. if b then labelled_values (labelled labels
            (all_meant by vs)) names else None) a) ∙ e in
            absurd (grind arith)
        by_count true a =
            let as_many = eqb-true (length (labelled labels (all_meant by vs))) (length names) a in
            let count : length vs ≡ length names = omega (
              arith,
              as_many,
              labelled_length labels vs many,
              many,
            ) in
            let found = found_all names (map (λ (one : Low). Some one) (all_ran by vs)) xs once (left_first
            names)
            (sym (ap (λ b. if b then labelled_values (labelled labels (all_meant by vs)) names else None) a)
            ∙ e) in
            let so = eq-eqb (length (map (λ name. place_in labels name) names)) (length (all_ran by vs))
            (length-map names (λ name. place_in labels name) ∙ sym count
            ∙ sym (length-map vs (ran by))) in (
              count,
              record {
                args = found.args;
                counted = found.counted;
                are = found.are;
                ordered_are =
                    ap (λ b. if b then arguments_at (map (λ name. place_in labels name) names) (map (λ (one
                    : Low). Some one) (all_ran by vs)) else None) so
                    ∙ found.ordered_are;
              },
            )

-- arguments by position
pub position_found : (by : Coding) (vs : List (Both by)) (names : List Bytes) (xs : List Value)
    → acts.by_position (all_meant by vs) names ≡ Some xs → (length vs ≡ length names) × (xs
    ≡ all_meant by vs)
position_found by vs names xs e = by_count (length (all_meant by vs) == length names) refl
  where
    by_count : (b : Bool) → (length (all_meant by vs) == length names) ≡ b → (length vs ≡ length names)
        × (xs ≡ all_meant by vs)
    by_count false a =
        let nothing : None ≡ Some xs = sym (ap (λ b. if b then Some (all_meant by vs) else None) a) ∙ e in
        absurd (grind arith)
    by_count true a =
        let as_many = eqb-true (length (all_meant by vs)) (length names) a in
        let both : Some (all_meant by vs) ≡ Some xs = sym (ap (λ b. if b then Some (all_meant by vs) else
        None) a) ∙ e in
        (sym (length-map vs (meant by)) ∙ as_many, cc)

-- ---- an order that is left out

-- arguments in declared order need none
pub declared_or_not : (order : List ℕ) (values args : List Low) → length order ≡ length values
    → ordered order values ≡ Some args → ordered_if (unless_declared order) values ≡ Some args
declared_or_not order values args many e = by_test (bytes_eq order (numbers_from 0 order)) refl
  where
    not_first : (order : List ℕ) → ordered order values ≡ Some args → bytes_eq order (numbers_from 0 order)
        ≡ false → ordered_if order values ≡ Some args
    not_first [] e f = absurd (true≢false f)
    not_first (index ∷ rest) e f = e

    by_test : (b : Bool) → bytes_eq order (numbers_from 0 order) ≡ b
        → ordered_if (unless_declared order) values ≡ Some args
    by_test true a =
        let is : order ≡ numbers_from 0 order = (bytes_eq-Decides order (numbers_from 0 order)).0 a in
        ap (λ b. ordered_if (if b then [] else order) values) a
        ∙ sym (positions_ordered order values many)
        ∙ ap (λ o. ordered o values) (sym is) ∙ e
    by_test false a = ap (λ b. ordered_if (if b then [] else order) values) a ∙ not_first order e a
