-- Places of variables by their names.
use Rattle.std.proofs.Common.{◌≡◌, ℕ, suc, ◌-◌, ◌<◌, ◌≤◌, length, get_or, slice_get, List, [], ◌∷◌, ◌++◌}
use Rattle.std.proofs.Common.{map, reverse, find, drop, Bool, true, false, cond, Option, None, Some}
use Rattle.std.proofs.Common.{is_some, option_map, if◌then◌else◌, refl, ap, subst, sym, ◌∙◌}
use Rattle.std.proofs.Common.{true≢false, arith}
use Rattle.std.proofs.lemmas.List.{get_or_append_left, length-append, length-map, length-reverse}
use Rattle.std.proofs.lemmas.List.{reverse-append, map-append}
use Rattle.std.proofs.lemmas.Option.{slice_get-get_or, slice_get-map, slice_get_read, none-some, same_Some}
use Rattle.std.proofs.Math.Seq.{get_or-append_seam}
use Rattle.std.specs.Map.{set_value}
use Rattle.std.specs.Str.{bytes_eq}
use Rattle.au_base.proofs.TextLemmas.{bytes_self, bytes_same}
use Rattle.au_base.proofs.OptionLemmas.{none_of}
use Rattle.au_typing.specs.Scopes.{Variable}
use Rattle.au_types.specs.Tables.{find as at_name, has_name, pairs_by, with_pair}
use Rattle.au_types.proofs.TableLemmas.{find-with_pair, find-with_pair_other}
use Rattle.au_typing.specs.declared.variables.Held.{Held}
use Rattle.au_typing.specs.Places.{kept, place_in, placed, place_of, alone, held_said, ArePlaced}
use Rattle.au_typing.specs.Variables.{variable_said}

-- ---- what may be there

kept_there : (o : Option (Option ℕ)) (place : ℕ) → kept o ≡ Some place → is_some o ≡ true
kept_there None place e = absurd (none-some place e)
kept_there (Some one) place e = refl

kept_if : (b : Bool) (place : Option ℕ) (rest : Option (Option ℕ))
    → kept (if b then Some place else rest) ≡ (if b then place else kept rest)
kept_if true place rest = refl
kept_if false place rest = refl

-- ---- a value that is set under a key that is there

module _ {K V : Type 0} (name_of : K → List ℕ) (name : List ℕ) (w : V) where
  -- under its name it is found, and what other names have stays
  find-set_value : (es : List (K × V)) (other : List ℕ) → has_name name (pairs_by es name_of) ≡ true →
      at_name other (pairs_by (set_value (λ k. bytes_eq name (name_of k)) es w) name_of)
      ≡ (if bytes_eq name other then Some w else at_name other (pairs_by es name_of))
  find-set_value [] other there = absurd (true≢false (sym there))
  find-set_value (e ∷ es) other there =
      by (bytes_eq name (name_of e.0)) refl (bytes_eq name other) refl (bytes_eq other (name_of e.0)) refl
      (find-set_value es other)
    where
      by : (b : Bool) → bytes_eq name (name_of e.0) ≡ b → (c : Bool) → bytes_eq name other ≡ c
          → (d : Bool) → bytes_eq other (name_of e.0) ≡ d
          → (has_name name (pairs_by es name_of) ≡ true
          → at_name other (pairs_by (set_value (λ k. bytes_eq name (name_of k)) es w) name_of)
          ≡ (if bytes_eq name other then Some w else at_name other (pairs_by es name_of)))
          → at_name other (pairs_by (set_value (λ k. bytes_eq name (name_of k)) (e ∷ es) w) name_of)
          ≡ (if bytes_eq name other then Some w else at_name other (pairs_by (e ∷ es) name_of))
      by true eb true ec true ed rec = rw eb (rw ec (rw ed refl))
      by true eb true ec false ed rec =
          absurd (true≢false (sym (ap (λ x. bytes_eq x (name_of e.0)) (sym (bytes_same name other ec)) ∙ eb)
          ∙ ed))
      by true eb false ec true ed rec =
          absurd (true≢false (sym (ap (bytes_eq name) (bytes_same other (name_of e.0) ed) ∙ eb) ∙ ec))
      by true eb false ec false ed rec = rw eb (rw ec (rw ed refl))
      by false eb true ec true ed rec =
          absurd (true≢false (sym (ap (λ x. bytes_eq x (name_of e.0)) (bytes_same name other ec) ∙ ed) ∙ eb))
      by false eb true ec false ed rec =
          let there' : has_name name (pairs_by es name_of)
          ≡ true = sym (ap (λ c. is_some (cond c (Some e.1) (at_name name (pairs_by es name_of)))) eb)
          ∙ there in
          rw eb (rw ed (rec there'))
      by false eb false ec true ed rec = rw eb (rw ec (rw ed refl))
      by false eb false ec false ed rec =
          let there' : has_name name (pairs_by es name_of)
          ≡ true = sym (ap (λ c. is_some (cond c (Some e.1) (at_name name (pairs_by es name_of)))) eb)
          ∙ there in
          rw eb (rw ed (rec there'))

-- places after one is set
pub place_in-set : {K : Type 0} (name_of : K
    → List ℕ) (name : List ℕ) (place : Option ℕ) (es : List (K × Option ℕ)) (other : List ℕ) →
    is_some (at_name name (pairs_by es name_of)) ≡ true →
    place_in other (pairs_by (set_value (λ k. bytes_eq name (name_of k)) es place) name_of)
    ≡ placed name place (λ one. place_in one (pairs_by es name_of)) other
place_in-set name_of name place es other there =
    ap kept (find-set_value name_of name place es other there)
    ∙ kept_if (bytes_eq name other) place (at_name other (pairs_by es name_of))

-- a name without a place gets room
pub room_same : (places : List (List ℕ × Option ℕ)) (name other : List ℕ) → has_name name places ≡ false →
    place_in other (with_pair places name None) ≡ place_in other places
room_same places name other fresh = by (bytes_eq other name) refl
  where
    by : (b : Bool) → bytes_eq other name ≡ b → place_in other (with_pair places name None)
        ≡ place_in other places
    by true e =
        subst (λ x. place_in x (with_pair places name None) ≡ place_in x places)
        (sym (bytes_same other name e))
        (ap kept (find-with_pair places name None fresh)
        ∙ sym (ap kept (none_of (at_name name places) fresh)))
    by false e =
        ap kept (find-with_pair_other places name None other
        (λ same. true≢false (sym (bytes_self other) ∙ ap (bytes_eq other) same ∙ e)))

pub room_there : (places : List (List ℕ × Option ℕ)) (name : List ℕ) → has_name name places ≡ false →
    is_some (at_name name (with_pair places name None)) ≡ true
room_there places name fresh = ap is_some (find-with_pair places name None fresh)

-- ---- the place of the innermost variable of a name

found_at : (name : List ℕ) (v : Variable) (rest : List Variable) (b : Bool) → bytes_eq v.name name ≡ b →
    place_of name (v ∷ rest) ≡ (if b then Some (length rest) else place_of name rest)
found_at name v rest b e = ap (λ c. if c then Some (length rest) else place_of name rest) e

pub place_within : (name : List ℕ) (vs : List Variable) (i : ℕ) → place_of name vs ≡ Some i → i < length vs
place_within name [] i h = absurd (none-some i h)
place_within name (v ∷ rest) i h = by (bytes_eq v.name name) refl (place_within name rest i)
  where
    by : (b : Bool) → bytes_eq v.name name ≡ b → (place_of name rest ≡ Some i → i < length rest)
        → i < length (v ∷ rest)
    by true e rec = let same : length rest
        ≡ i = same_Some (length rest) i (sym (found_at name v rest true e) ∙ h) in omega (arith, same)
    by false e rec = let less : i < length rest = rec (sym (found_at name v rest false e)
        ∙ h) in omega (arith, less)

pub place_found : (name : List ℕ) (vs : List Variable) (i : ℕ) → place_of name vs ≡ Some i →
    find (λ (one : Variable). bytes_eq one.name name) vs ≡ slice_get (reverse vs) i
place_found name [] i h = absurd (none-some i h)
place_found name (v ∷ rest) i h =
    by (bytes_eq v.name name) refl (place_found name rest i) (place_within name rest i)
    ∙ ap (λ l. slice_get l i) (sym (reverse-append (v ∷ []) rest))
  where
    by : (b : Bool) → bytes_eq v.name name ≡ b
        → (place_of name rest ≡ Some i → find (λ (one : Variable). bytes_eq one.name name) rest
        ≡ slice_get (reverse rest) i)
        → (place_of name rest ≡ Some i → i < length rest)
        → find (λ (one : Variable). bytes_eq one.name name) (v ∷ rest) ≡ slice_get (reverse rest ++ v ∷ []) i
    by true e rec less =
        let same : length rest ≡ i = same_Some (length rest) i (sym (found_at name v rest true e) ∙ h) in
        let last : length (reverse rest) ≡ i = length-reverse rest ∙ same in
        let within : length (reverse rest) < length (reverse rest ++ v ∷ []) =
        omega (arith, length-append (reverse rest) (v ∷ [])) in
        rw e (sym (ap (slice_get (reverse rest ++ v ∷ [])) (sym last)
        ∙ slice_get-get_or (reverse rest ++ v ∷ []) (length (reverse rest)) v within
        ∙ ap Some (get_or-append_seam (reverse rest) v [] v)))
    by false e rec less =
        let there : place_of name rest ≡ Some i = sym (found_at name v rest false e) ∙ h in
        let lt : i < length (reverse rest) = omega (arith, less there, length-reverse rest) in
        let within : i < length (reverse rest ++ v ∷ []) =
        omega (arith, lt, length-append (reverse rest) (v ∷ [])) in
        rw e (rec there ∙ slice_get-get_or (reverse rest) i v lt
        ∙ sym (ap Some (get_or_append_left (reverse rest) (v ∷ []) v i lt))
        ∙ sym (slice_get-get_or (reverse rest ++ v ∷ []) i v within))

pub place_missing : (name : List ℕ) (vs : List Variable) → place_of name vs ≡ None
    → find (λ (one : Variable). bytes_eq one.name name) vs ≡ None
place_missing name [] h = refl
place_missing name (v ∷ rest) h = by (bytes_eq v.name name) refl (place_missing name rest)
  where
    by : (b : Bool) → bytes_eq v.name name ≡ b
        → (place_of name rest ≡ None → find (λ (one : Variable). bytes_eq one.name name) rest ≡ None)
        → find (λ (one : Variable). bytes_eq one.name name) (v ∷ rest) ≡ None
    by true e rec = absurd (none-some (length rest) (sym (sym (found_at name v rest true e) ∙ h)))
    by false e rec = rw e (rec (sym (found_at name v rest false e) ∙ h))

-- ---- one more variable, and one less

-- variables of the code, with one more
pub held_more : (xs : List Held) (h : Held) → reverse (map held_said (xs ++ h ∷ []))
    ≡ held_said h ∷ reverse (map held_said xs)
held_more xs h = ap reverse (map-append held_said xs (h ∷ []))
    ∙ reverse-append (map held_said xs) (held_said h ∷ [])

pub seen_more : (xs : List Held) (h : Held) → alone (reverse (map held_said (xs ++ h ∷ [])))
    ≡ variable_said h.one ∷ alone (reverse (map held_said xs))
seen_more xs h = ap alone (held_more xs h)

pub placed_more : (all : List (Variable × Option ℕ)) (places mid new : List (List ℕ × Option ℕ)) (v :
    Variable) (hides : Option ℕ) (count : ℕ) →
    ArePlaced all places → ((other : List ℕ) → place_in other mid ≡ place_in other places) → hides
    ≡ place_in v.name mid → count ≡ length all
    → ((other : List ℕ) → place_in other new ≡ placed v.name (Some count) (λ one. place_in one mid) other)
    → ArePlaced ((v, hides) ∷ all) new
placed_more all places mid new v hides count before room hid many set = (
  (hid ∙ room v.name ∙ before.1 v.name, before.0),
  λ q.
      set q
      ∙ ap (λ r. if bytes_eq v.name q then Some count else r) (room q ∙ before.1 q)
      ∙ ap (λ n. if bytes_eq v.name q then Some n else place_of q (alone all)) (many
      ∙ sym (length-map all (λ h. h.0))),
)

-- the innermost variable has a place
pub room_of_first : (h : Variable × Option ℕ) (all : List (Variable × Option ℕ)) (places : List (List ℕ ×
    Option ℕ)) →
    ArePlaced (h ∷ all) places → is_some (at_name h.0.name places) ≡ true
room_of_first h all places before =
    kept_there (at_name h.0.name places) (length (alone all)) (before.1 h.0.name
    ∙ found_at h.0.name h.0 (alone all) true (bytes_self h.0.name))

pub placed_less : (h : Variable × Option ℕ) (all : List (Variable × Option ℕ)) (places new : List (List ℕ
    × Option ℕ)) →
    ArePlaced (h ∷ all) places → ((other : List ℕ) → place_in other new
    ≡ placed h.0.name h.1 (λ one. place_in one places) other)
    → ArePlaced all new
placed_less h all places new before set = (before.0.1, λ q. set q ∙ by q (bytes_eq h.0.name q) refl)
  where
    by : (q : List ℕ) (b : Bool) → bytes_eq h.0.name q ≡ b
        → placed h.0.name h.1 (λ one. place_in one places) q ≡ place_of q (alone all)
    by q true e = rw e (before.0.0 ∙ ap (λ x. place_of x (alone all)) (bytes_same h.0.name q e))
    by q false e = rw e (before.1 q ∙ found_at q h.0 (alone all) false e)

-- ---- variables of the code

seen_length : (xs : List Held) → length (alone (reverse (map held_said xs))) ≡ length xs
seen_length xs =
    length-map (reverse (map held_said xs)) (λ h. h.0) ∙ length-reverse (map held_said xs)
    ∙ length-map xs held_said

reverse_alone : (ys : List (Variable × Option ℕ)) → reverse (alone (reverse ys)) ≡ alone ys
reverse_alone [] = refl
reverse_alone (y ∷ rest) =
    ap (λ l. reverse (alone l)) (reverse-append (y ∷ []) rest)
    ∙ ap reverse (map-append (λ (h : Variable × Option ℕ). h.0) (reverse rest) (y ∷ []))
    ∙ reverse-append (alone (reverse rest)) (y.0 ∷ [])
    ∙ ap (λ l. y.0 ∷ l) (reverse_alone rest)

pub within_list : (name : List ℕ) (xs : List Held) (places : List (List ℕ × Option ℕ)) (i : ℕ) →
    ArePlaced (reverse (map held_said xs)) places → Some i ≡ place_in name places → i < length xs
within_list name xs places i inv is =
    subst (λ n. i < n) (seen_length xs)
    (place_within name (alone (reverse (map held_said xs))) i (sym (is ∙ inv.1 name)))

pub got : (name : List ℕ) (xs : List Held) (places : List (List ℕ × Option ℕ)) (i : ℕ) (h : Held) →
    ArePlaced (reverse (map held_said xs)) places → Some i ≡ place_in name places → h ≡ get_or xs i h →
    Some (variable_said h.one)
    ≡ find (λ (one : Variable). bytes_eq one.name name) (alone (reverse (map held_said xs)))
got name xs places i h inv is at =
    sym (place_found name (alone (reverse (map held_said xs))) i (sym (is ∙ inv.1 name))
    ∙ ap (λ l. slice_get l i) (reverse_alone (map held_said xs))
    ∙ slice_get-map (λ (h : Variable × Option ℕ). h.0) (map held_said xs) i
    ∙ ap (option_map (λ (h : Variable × Option ℕ). h.0)) (slice_get-map held_said xs i
    ∙ ap (option_map held_said) (slice_get_read xs (length xs) i h refl (within_list name xs places i inv
    is) at)))

pub got_none : (name : List ℕ) (xs : List Held) (places : List (List ℕ × Option ℕ)) →
    ArePlaced (reverse (map held_said xs)) places → None ≡ place_in name places →
    None ≡ find (λ (one : Variable). bytes_eq one.name name) (alone (reverse (map held_said xs)))
got_none name xs places inv is = sym (place_missing name (alone (reverse (map held_said xs))) (sym (is
    ∙ inv.1 name)))

-- ---- lists without their first items

-- so many items are left whether or not one is taken first
pub dropped_one : {A : Type 0} (xs : List A) (count : ℕ) → count < length xs →
    drop (length (drop 1 xs) - count) (drop 1 xs) ≡ drop (length xs - count) xs
dropped_one [] count lt = let no : ⊥ = omega (arith, lt) in absurd no
dropped_one (x ∷ rest) count lt =
    let more : suc (length rest - count)
    ≡ length (x ∷ rest) - count = omega (arith, lt) in ap (λ n. drop n (x ∷ rest)) more

-- and all where there are no more than that
pub dropped_none : {A : Type 0} (xs : List A) (count : ℕ) → length xs ≤ count
    → drop (length xs - count) xs ≡ xs
dropped_none xs count le = let none : length xs - count ≡ 0 = omega (arith, le) in ap (λ n. drop n xs) none
