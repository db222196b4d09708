-- The declarations of a program in the order of the text, one more at a time, and where they stand.
use Rattle.std.proofs.Common.{◌≡◌, ℕ, zero, suc, ◌+◌, ◌<◌, ◌≤◌, ◌⊎◌, inl, inr, List, [], ◌∷◌, ◌++◌, length}
use Rattle.std.proofs.Common.{map, take, get_or, Option, None, Some, refl, sym, ap, subst, ◌∙◌, append_assoc}
use Rattle.std.proofs.Common.{arith, zero-add}
use Rattle.std.specs.Prelude.{option_to_list, slice_get}
use Rattle.std.specs.List.{cons_option, filter_map}
use Rattle.std.proofs.lemmas.List.{append-nil, length-map, length-take-le, map_push, take_more}
use Rattle.std.proofs.lemmas.List.Elements.{filter_map-append}
use Rattle.std.proofs.lemmas.Option.{none-some, same_Some, slice_get_read, slice_get-map}
use Rattle.au_syntax.specs.contracts.parsed.ParsedPhase.TheImpl.{ghosts as parsed}
use Rattle.au_syntax.specs.declared.declarations.Decl.{Decl}
use Rattle.au_syntax.specs.declared.modules.Part.{Part}
use Rattle.au_syntax.specs.declared.modules.Part.TheVariants.{Interface, Body}
use Rattle.au_syntax.specs.declared.parsed.Parsed.{Parsed}
use Rattle.au_syntax.specs.Plain.{Bytes, PlainDeclaration, plain_declaration}
use Rattle.au_syntax.specs.Views.{declaration}
use Rattle.au_types.specs.declared.types.DeclAt.{DeclAt}
use Rattle.au_names.specs.Walks.{written, written_all}
use Rattle.au_modules.specs.Programs.{ModuleParts}
use Rattle.au_names.specs.Owned.{declarations_in}
use Rattle.au_names.proofs.AmongLemmas.{Among, among-append}
use Rattle.au_imports.proofs.OfferLemmas.{module_there}
use Rattle.au_formed.proofs.DeclarerLemmas.{one_listed}
use Rattle.au_formed.specs.Text.{Spot, module_spots, spots_from, text, text_from, visible_in}

abbrev pub TheDecl : Type 0
TheDecl = Decl Parsed (List ℕ) (Unit {0}) (Unit {0})

-- ---- one part

module _ (place : ℕ) (part : Part) where
  abbrev pub spot : ℕ → PlainDeclaration → Spot
  spot number d = record { at = record { «module» = place; decl = number }; part = part; says = d }

  pub spots_none : (number : ℕ) → spots_from place part number [] ≡ []
  unfolding spots_from
  spots_none number = refl

  spots_push : (number : ℕ) (ds : List PlainDeclaration) (d : PlainDeclaration)
      → spots_from place part number (ds ++ d ∷ [])
      ≡ spots_from place part number ds ++ spot (number + length ds) d ∷ []
  unfolding spots_from
  spots_push number [] d = let same : number ≡ number + 0 = omega arith in ap (λ n. spot n d ∷ []) same
  spots_push number (x ∷ xs) d =
      let same : number + 1 + length xs ≡ number + suc (length xs) = omega arith in
      ap (λ rest. spot number x ∷ rest)
      (spots_push (number + 1) xs d
      ∙ ap (λ n. spots_from place part (number + 1) xs ++ spot n d ∷ []) same)

  -- what one more declaration of the code adds
  pub spots_more : (number : ℕ) (ds : List TheDecl) (i : ℕ) (d : TheDecl) → i < length ds → d ≡ get_or ds i d
      → spots_from place part number (written_all (take (i + 1) ds))
      ≡ spots_from place part number (written_all (take i ds)) ++ spot (number + i) (written d) ∷ []
  spots_more number ds i d within is =
      let count : length (written_all (take i ds)) ≡ i =
      length-map (map (declaration parsed) (take i ds)) (plain_declaration parsed.name_bytes)
      ∙ length-map (take i ds) (declaration parsed)
      ∙ length-take-le i ds (omega arith) in
      ap (λ xs. spots_from place part number (written_all xs))
      (take_more ds i d within ∙ ap (λ x. take i ds ++ x ∷ []) (sym is))
      ∙ ap (spots_from place part number)
      (ap (map (plain_declaration parsed.name_bytes)) (map_push (declaration parsed) (take i ds) d)
      ∙ map_push (plain_declaration parsed.name_bytes) (map (declaration parsed) (take i ds))
      (declaration parsed d))
      ∙ spots_push number (written_all (take i ds)) (written d)
      ∙ ap (λ n. spots_from place part number (written_all (take i ds))
      ++ spot (number + n) (written d) ∷ []) count

  -- all stand in the module
  spots_place : (number : ℕ) (ds : List PlainDeclaration) (s : Spot)
      → Among s (spots_from place part number ds) → s.at.«module» ≡ place
  unfolding spots_from
  spots_place number [] s m = absurd m
  spots_place number (d ∷ ds) s (inl here) = ap (λ (t : Spot). t.at.«module») (sym here)
  spots_place number (d ∷ ds) s (inr later) = spots_place (number + 1) ds s later

-- ---- modules

pub text_none : (place : ℕ) → text_from place [] ≡ []
unfolding text_from
text_none place = refl

text_push : (place : ℕ) (ms : List ModuleParts) (m : ModuleParts)
    → text_from place (ms ++ m ∷ []) ≡ text_from place ms ++ module_spots (place + length ms) m
unfolding text_from
text_push place [] m =
    let same : place ≡ place + 0 = omega arith in
    append-nil (module_spots place m) ∙ ap (λ n. module_spots n m) same
text_push place (x ∷ xs) m =
    let same : place + 1 + length xs ≡ place + suc (length xs) = omega arith in
    ap (λ rest. module_spots place x ++ rest)
    (text_push (place + 1) xs m ∙ ap (λ n. text_from (place + 1) xs ++ module_spots n m) same)
    ∙ sym (append_assoc (module_spots place x) (text_from (place + 1) xs)
    (module_spots (place + suc (length xs)) m))

-- what one more module adds
pub text_more : (ms : List ModuleParts) (i : ℕ) (m : ModuleParts) → i < length ms → slice_get ms i ≡ Some m
    → text_from 0 (take (i + 1) ms) ≡ text_from 0 (take i ms) ++ module_spots i m
text_more ms i m within there =
    let same : 0 + length (take i ms) ≡ i = zero-add (length (take i ms))
    ∙ length-take-le i ms (omega arith) in
    ap (text_from 0) (take_more ms i m within ∙ ap (λ x. take i ms ++ x ∷ []) (read ms i m there))
    ∙ text_push 0 (take i ms) m
    ∙ ap (λ n. text_from 0 (take i ms) ++ module_spots n m) same
  where
    read : (xs : List ModuleParts) (k : ℕ) (x : ModuleParts) → slice_get xs k ≡ Some x → get_or xs k x ≡ x
    read [] k x h = absurd (none-some x h)
    read (y ∷ ys) zero x h = same_Some y x h
    read (y ∷ ys) (suc k) x h = read ys k x h

module_place : (place : ℕ) (m : ModuleParts) (s : Spot) → Among s (module_spots place m)
    → s.at.«module» ≡ place
module_place place m s h =
    by (among-append (spots_from place Interface 0 (declarations_in m.interface))
    (spots_from place Body (length (declarations_in m.interface)) (declarations_in m.body)) s h)
  where
    by : Among s (spots_from place Interface 0 (declarations_in m.interface))
        ⊎ Among s (spots_from place Body (length (declarations_in m.interface)) (declarations_in m.body))
        → s.at.«module» ≡ place
    by (inl one) = spots_place place Interface 0 (declarations_in m.interface) s one
    by (inr other) = spots_place place Body (length (declarations_in m.interface))
        (declarations_in m.body) s other

text_within : (place : ℕ) (ms : List ModuleParts) (s : Spot) → Among s (text_from place ms)
    → s.at.«module» < place + length ms
unfolding text_from
text_within place [] s h = absurd h
text_within place (m ∷ ms) s h = by (among-append (module_spots place m) (text_from (place + 1) ms) s h)
    (text_within (place + 1) ms s)
  where
    by : Among s (module_spots place m) ⊎ Among s (text_from (place + 1) ms)
        → (Among s (text_from (place + 1) ms) → s.at.«module» < place + 1 + length ms)
        → s.at.«module» < place + suc (length ms)
    by (inl here) on = let is = module_place place m s here in omega arith
    by (inr later) on = let less = on later in omega arith

-- a declaration of a program stands in one of its modules
pub spot_within : (program : List ModuleParts) (s : Spot) → Among s (text program)
    → s.at.«module» < length program
spot_within program s h = let less = text_within 0 program s h in omega arith

-- that of an index among the declarations of the code, by what these say
pub said_among : {A B : Type 0} (f : A → B) (xs : List A) (ys : List B) (i : ℕ) (x : A) → map f xs ≡ ys
    → i < length xs → x ≡ get_or xs i x → Among (f x) ys
said_among f xs ys i x all within is = subst (λ zs. Among (f x) zs) all (there xs i x within is)
  where
    there : (zs : List _) (k : ℕ) (z : _) → k < length zs → z ≡ get_or zs k z → Among (f z) (map f zs)
    there [] k z h e = absurd (omega arith)
    there (y ∷ ys) zero z h e = inl (ap f (sym e))
    there (y ∷ ys) (suc k) z h e = inr (there ys k z (omega arith) e)

-- ---- what is visible

pub visible_known : (program : List ModuleParts) (place : ℕ) (part : Part) (names : List (Bytes × DeclAt))
    → place < length program
    → ((m : ModuleParts) → slice_get program place ≡ Some m → names ≡ visible_in program place part (Some m))
    → names ≡ visible_in program place part (slice_get program place)
visible_known program place part names within h =
    let there = module_there program place within in
    h there.0 there.1 ∙ ap (visible_in program place part) (sym there.1)

-- ---- one more that is kept

pub kept_more : {A B C : Type 0} (f : A → B) (h : B → Option C) (xs : List A) (i : ℕ) (x : A) → i < length xs
    → x ≡ get_or xs i x
    → filter_map h (map f (take (i + 1) xs)) ≡ filter_map h (map f (take i xs)) ++ option_to_list (h (f x))
kept_more f h xs i x within is =
    ap (λ zs. filter_map h (map f zs)) (take_more xs i x within ∙ ap (λ z. take i xs ++ z ∷ []) (sym is))
    ∙ ap (filter_map h) (map_push f (take i xs) x)
    ∙ filter_map-append h (map f (take i xs)) (f x ∷ [])
    ∙ ap (λ l. filter_map h (map f (take i xs)) ++ l) (sym (one_listed (h (f x))))
