-- The name of a function that stands in the body of a module means a declaration of this module there.
use Rattle.std.proofs.Common.{◌≡◌, ℕ, ◌+◌, Bool, true, false, cond, List, [], ◌∷◌, ◌++◌, Option, None, Some}
use Rattle.std.proofs.Common.{refl, sym, ap, ◌∙◌}
use Rattle.std.specs.Prelude.{slice_get}
use Rattle.std.specs.Option.{option_or}
use Rattle.std.specs.Str.{bytes_eq}
use Rattle.std.proofs.lemmas.Option.{none-some}
use Rattle.std.proofs.lemmas.Slice.Eq.{bytes_eq-Decides}
use Rattle.au_syntax.specs.declared.modules.Part.TheVariants.{Body}
use Rattle.au_syntax.specs.Modules.{function_body}
use Rattle.au_syntax.specs.Plain.{Bytes, PlainDeclaration}
use Rattle.au_types.specs.DeclaredNames.{callable_names, given, names_in, numbered}
use Rattle.au_types.specs.declared.spaces.Space.TheVariants.{Callables}
use Rattle.au_types.specs.Tables.{find}
use Rattle.au_types.proofs.TableLemmas.{find-firsts}
use Rattle.au_modules.specs.Programs.{ModuleParts}
use Rattle.au_modules.specs.Seen.{body_tree}
use Rattle.au_names.specs.declared.targets.Target.{Target}
use Rattle.au_names.specs.Exporting.{declarations_seen}
use Rattle.au_names.specs.Importing.{imported, place_of}
use Rattle.au_names.specs.Meanings.{imports_in, pervasive}
use Rattle.au_names.specs.Owned.{declarations_in, own, target, targets}
use Rattle.au_names.proofs.ExportLemmas.{body_seen}
use Rattle.au_typing.specs.Written.{seen_in}
use Rattle.au_closing.specs.Entries.{Function, entry_of, form_at, formed, found_at, found_in, function_among}
use Rattle.au_closing.specs.Entries.{function_at, function_in, meant_as, target_at}

-- what is found before others is found first
found_first : (name : Bytes) (xs ys : List (Bytes × Target)) (t : Target) → find name xs ≡ Some t
    → find name (xs ++ ys) ≡ Some t
found_first name [] ys t h = absurd (none-some t h)
found_first name (x ∷ xs) ys t h = by (bytes_eq name x.0) h (λ k. found_first name xs ys t k)
  where
    by : (b : Bool) → cond b (Some x.1) (find name xs) ≡ Some t
        → (find name xs ≡ Some t → find name (xs ++ ys) ≡ Some t)
        → cond b (Some x.1) (find name (xs ++ ys)) ≡ Some t
    by true k on = k
    by false k on = on k

module _ (place : ℕ) (name : Bytes) where
  -- the name means a declaration of the module at the place
  abbrev pub IsOwn : Option Target → Type 0
  IsOwn found = (number : ℕ) × (found ≡ Some (target place name number))

  -- names before others, where the name is among the others
  own_later : (number : ℕ) (names : List Bytes) (rest : List (Bytes × ℕ))
      → IsOwn (find name (targets place rest))
      → IsOwn (find name (targets place (given number names ++ rest)))
  own_later number [] rest own = own
  own_later number (x ∷ names) rest own = by (bytes_eq name x) refl (own_later number names rest own)
    where
      by : (b : Bool) → bytes_eq name x ≡ b → IsOwn (find name (targets place (given number names ++ rest)))
          → IsOwn (cond b (Some (target place x number))
          (find name (targets place (given number names ++ rest))))
      by true told later =
          (number, ap (λ y. Some (target place y number)) (sym ((bytes_eq-Decides name x).0 told)))
      by false told later = later

  -- the name is that of a function
  own_here : (number : ℕ) (d : PlainDeclaration) (f : Function) (rest : List (Bytes × ℕ))
      → function_in name d ≡ Some f
      → IsOwn (find name (targets place (given number (callable_names d) ++ rest)))
  own_here number (function_body at generics h block stop) f rest is = by (bytes_eq name h.name.name) refl is
    where
      whole : Function
      whole = record { at = at; generics = generics; header = h }

      by : (b : Bool) → bytes_eq name h.name.name ≡ b → cond b (Some whole) None ≡ Some f
          → IsOwn (cond b (Some (target place h.name.name number)) (find name (targets place rest)))
      by true told k =
          (number, ap (λ y. Some (target place y number)) (sym ((bytes_eq-Decides name h.name.name).0 told)))
      by false told k = absurd (none-some f k)
  own_here number other f rest is = absurd (none-some f is)

  -- it is that of one among declarations
  own_among : (first : ℕ) (ds : List PlainDeclaration) (f : Function) → function_among name ds ≡ Some f
      → IsOwn (find name (targets place (names_in Callables (numbered first ds))))
  unfolding names_in numbered
  own_among first [] f is = absurd (none-some f is)
  own_among first (d ∷ ds) f is = by (function_in name d) refl is (λ k. own_among (first + 1) ds f k)
    where
      by : (o : Option Function) → function_in name d ≡ o → option_or o (function_among name ds) ≡ Some f
          → (function_among name ds ≡ Some f
          → IsOwn (find name (targets place (names_in Callables (numbered (first + 1) ds)))))
          → IsOwn (find name (targets place (names_in Callables (numbered first (d ∷ ds)))))
      by None none k on =
          own_later first (callable_names d) (names_in Callables (numbered (first + 1) ds)) (on k)
      by (Some g) here k on = own_here first d g (names_in Callables (numbered (first + 1) ds)) here

  -- the same where others stand before them
  own_behind : (first : ℕ) (before ds : List PlainDeclaration) (f : Function)
      → function_among name ds ≡ Some f
      → IsOwn (find name (targets place (names_in Callables (numbered first (before ++ ds)))))
  unfolding names_in numbered
  own_behind first [] ds f is = own_among first ds f is
  own_behind first (d ∷ before) ds f is =
      own_later first (callable_names d) (names_in Callables (numbered (first + 1) (before ++ ds)))
      (own_behind (first + 1) before ds f is)

-- the name of a function of the body of a module
own_function : (program : List ModuleParts) (place : ℕ) (name : Bytes) (f : Function)
    → function_at program place name ≡ Some f → IsOwn place name (target_at program place name)
own_function program place name f is = by (slice_get program place) is
  where
    by : (found : Option ModuleParts) → function_among name (declarations_seen (body_tree found)) ≡ Some f
        → IsOwn place name (find name (seen_in Callables program place Body found))
    by None h = absurd (none-some f h)
    by (Some m) h =
        let owned = own Callables place m in
        let brought = imported Callables program place (imports_in m.body) in
        let known = pervasive Callables program in
        let in_body = ap (function_among name) (body_seen m) ∙ h in
        let first = declarations_in m.interface in
        let there = own_behind place name 0 first (declarations_in m.body) f in_body in
        let t = target place name there.0 in (
          there.0,
          find-firsts name (owned ++ brought ++ known)
              ∙ found_first name (owned ++ brought) known t (found_first name owned brought t there.1),
        )

-- a function that stands in the body of the module of a name is found as it is
pub stands_found : (program : List ModuleParts) (owner name : Bytes) (place : ℕ) (f : Function)
    → place_of program owner ≡ Some place → function_at program place name ≡ Some f
    → (number : ℕ) × (entry_of program owner name
    ≡ formed f.at (target place name number) (form_at program place f))
stands_found program owner name place f here is =
    let own = own_function program place name f is in (
      own.0,
      ap (found_in program name) here ∙ ap (found_at program place name) is ∙ ap (meant_as program place f) own.1,
    )
