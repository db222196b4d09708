-- The innermost variable of a name.
use Rattle.std.proofs.Common.{◌≡◌, ℕ, ◌-◌, ◌<◌, length, get_or, slice_get, List, [], ◌∷◌, ◌++◌, take}
use Rattle.std.proofs.Common.{map, reverse, find, Bool, true, false, Option, None, Some}
use Rattle.std.proofs.Common.{option_map, if◌then◌else◌, refl, ap, subst, sym, ◌∙◌, arith}
use Rattle.std.proofs.lemmas.List.{get_or_append_left, length-append, length-reverse, reverse-append}
use Rattle.std.proofs.lemmas.List.{reverse-reverse, take-take}
use Rattle.std.proofs.lemmas.Option.{slice_get-get_or, slice_get_read, none-some, same_Some}
use Rattle.std.proofs.Math.Seq.{get_or-append_seam}
use Rattle.std.specs.Str.{bytes_eq}
use Rattle.au_typing.specs.Places.{place_in}
use Rattle.au_meaning.specs.Names.{Variable, variable_of}
use Rattle.au_lowered.proofs.CallLemmas.{map_reverse}
use Rattle.au_lowering_expressions.specs.declared.locals.Held.{Held}
use Rattle.au_lowering_expressions.specs.Innermost.{ArePlaced, alone, place_of}
use Rattle.au_lowering_expressions.specs.Views.{local_said, scope_said}

-- ---- variables with the innermost first

found_at : (name : List ℕ) (h : Held) (rest : List Held) (b : Bool) → bytes_eq h.one.name name ≡ b →
    place_of name (h ∷ rest) ≡ (if b then Some (length rest) else place_of name rest)
found_at name h rest b e = ap (λ c. if c then Some (length rest) else place_of name rest) e

place_within : (name : List ℕ) (hs : List Held) (i : ℕ) → place_of name hs ≡ Some i → i < length hs
place_within name [] i is = absurd (none-some i is)
place_within name (h ∷ rest) i is = by (bytes_eq h.one.name name) refl (place_within name rest i)
  where
    by : (b : Bool) → bytes_eq h.one.name name ≡ b → (place_of name rest ≡ Some i → i < length rest)
        → i < length (h ∷ rest)
    by true e rec = let same : length rest
        ≡ i = same_Some (length rest) i (sym (found_at name h rest true e) ∙ is) in omega (arith, same)
    by false e rec = let less : i < length rest = rec (sym (found_at name h rest false e)
        ∙ is) in omega (arith, less)

place_found : (name : List ℕ) (hs : List Held) (i : ℕ) → place_of name hs ≡ Some i →
    find (λ (h : Held). bytes_eq h.one.name name) hs ≡ slice_get (reverse hs) i
place_found name [] i is = absurd (none-some i is)
place_found name (h ∷ rest) i is =
    by (bytes_eq h.one.name name) refl (place_found name rest i) (place_within name rest i)
    ∙ ap (λ l. slice_get l i) (sym (reverse-append (h ∷ []) rest))
  where
    by : (b : Bool) → bytes_eq h.one.name name ≡ b
        → (place_of name rest ≡ Some i → find (λ (h : Held). bytes_eq h.one.name name) rest
        ≡ slice_get (reverse rest) i)
        → (place_of name rest ≡ Some i → i < length rest)
        → find (λ (h : Held). bytes_eq h.one.name name) (h ∷ rest) ≡ slice_get (reverse rest ++ h ∷ []) i
    by true e rec less =
        let same : length rest ≡ i = same_Some (length rest) i (sym (found_at name h rest true e) ∙ is) in
        let last : length (reverse rest) ≡ i = length-reverse rest ∙ same in
        let within : length (reverse rest) < length (reverse rest ++ h ∷ []) =
        omega (arith, length-append (reverse rest) (h ∷ [])) in
        rw e (sym (ap (slice_get (reverse rest ++ h ∷ [])) (sym last)
        ∙ slice_get-get_or (reverse rest ++ h ∷ []) (length (reverse rest)) h within
        ∙ ap Some (get_or-append_seam (reverse rest) h [] h)))
    by false e rec less =
        let there : place_of name rest ≡ Some i = sym (found_at name h rest false e) ∙ is in
        let lt : i < length (reverse rest) = omega (arith, less there, length-reverse rest) in
        let within : i < length (reverse rest ++ h ∷ []) =
        omega (arith, lt, length-append (reverse rest) (h ∷ [])) in
        rw e (rec there ∙ slice_get-get_or (reverse rest) i h lt
        ∙ sym (ap Some (get_or_append_left (reverse rest) (h ∷ []) h i lt))
        ∙ sym (slice_get-get_or (reverse rest ++ h ∷ []) i h within))

place_missing : (name : List ℕ) (hs : List Held) → place_of name hs ≡ None
    → find (λ (h : Held). bytes_eq h.one.name name) hs ≡ None
place_missing name [] is = refl
place_missing name (h ∷ rest) is = by (bytes_eq h.one.name name) refl (place_missing name rest)
  where
    by : (b : Bool) → bytes_eq h.one.name name ≡ b
        → (place_of name rest ≡ None → find (λ (h : Held). bytes_eq h.one.name name) rest ≡ None)
        → find (λ (h : Held). bytes_eq h.one.name name) (h ∷ rest) ≡ None
    by true e rec = absurd (none-some (length rest) (sym (sym (found_at name h rest true e) ∙ is)))
    by false e rec = rw e (rec (sym (found_at name h rest false e) ∙ is))

-- ---- what they say

-- what a variable says
abbrev said : Held → Variable
said h = local_said h.one

find_said : (name : List ℕ) (hs : List Held) → variable_of (map said hs) name
    ≡ option_map said (find (λ (h : Held). bytes_eq h.one.name name) hs)
find_said name [] = refl
find_said name (h ∷ rest) = by (bytes_eq h.one.name name) refl (find_said name rest)
  where
    by : (b : Bool) → bytes_eq h.one.name name ≡ b
        → variable_of (map said rest) name
        ≡ option_map said (find (λ (h : Held). bytes_eq h.one.name name) rest)
        → variable_of (map said (h ∷ rest)) name
        ≡ option_map said (find (λ (h : Held). bytes_eq h.one.name name) (h ∷ rest))
    by true e rec = rw e refl
    by false e rec = rw e rec

map_said : (hs : List Held) → map local_said (alone hs) ≡ map said hs
map_said [] = refl
map_said (h ∷ rest) = ap (λ l. said h ∷ l) (map_said rest)

scope_is : (hs : List Held) → scope_said (alone hs) ≡ map said (reverse hs)
scope_is hs = ap reverse (map_said hs) ∙ sym (map_reverse said hs)

-- ---- the table

pub within_list : (name : List ℕ) (hs : List Held) (places : List (List ℕ × Option ℕ)) (i : ℕ) →
    ArePlaced hs places → Some i ≡ place_in name places → i < length hs
within_list name hs places i inv is =
    subst (λ n. i < n) (length-reverse hs) (place_within name (reverse hs) i (sym (is ∙ inv.1 name)))

pub got : (name : List ℕ) (hs : List Held) (places : List (List ℕ × Option ℕ)) (i : ℕ) (h : Held) →
    ArePlaced hs places → Some i ≡ place_in name places → h ≡ get_or hs i h →
    Some (local_said h.one) ≡ variable_of (scope_said (alone hs)) name
got name hs places i h inv is at =
    sym (ap (λ s. variable_of s name) (scope_is hs)
    ∙ find_said name (reverse hs)
    ∙ ap (option_map said) (place_found name (reverse hs) i (sym (is ∙ inv.1 name))
    ∙ ap (λ l. slice_get l i) (reverse-reverse hs)
    ∙ slice_get_read hs (length hs) i h refl (within_list name hs places i inv is) at))

pub got_none : (name : List ℕ) (hs : List Held) (places : List (List ℕ × Option ℕ)) →
    ArePlaced hs places → None ≡ place_in name places → None ≡ variable_of (scope_said (alone hs)) name
got_none name hs places inv is =
    sym (ap (λ s. variable_of s name) (scope_is hs)
    ∙ find_said name (reverse hs)
    ∙ ap (option_map said) (place_missing name (reverse hs) (sym (is ∙ inv.1 name))))

-- ---- lists without their last items

-- so many items are left whether or not one is taken first
pub taken_one : {A : Type 0} (xs : List A) (count : ℕ) → count < length xs →
    take count (take (length xs - 1) xs) ≡ take count xs
taken_one xs count lt = take-take count (length xs - 1) xs (omega (arith, lt))
