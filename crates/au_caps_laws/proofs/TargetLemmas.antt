-- What a name means that is called in a body has the name under which it is declared.
use Rattle.std.proofs.Common.{◌≡◌, ◌⊎◌, inl, inr, ℕ, ◌+◌, Bool, true, false, true≢false, cond, List, [], ◌∷◌, ◌++◌}
use Rattle.std.proofs.Common.{Option, None, Some, refl, sym, ap, ◌∙◌, subst, arith}
use Rattle.std.specs.Prelude.{filter, find, nat_lt, slice_get}
use Rattle.std.specs.Option.{option_map}
use Rattle.std.specs.Str.{bytes_eq}
use Rattle.std.proofs.lemmas.Option.{none-some, same_Some}
use Rattle.au_syntax.specs.declared.modules.Part.{Part}
use Rattle.au_syntax.specs.Modules.{Importing, constant, opaque_type, record_type, union_type, function, class}
use Rattle.au_syntax.specs.Modules.{instance, constant_body, function_body, instance_body}
use Rattle.au_syntax.specs.Names.{Renaming}
use Rattle.au_syntax.specs.Plain.{Bytes, PlainDeclaration}
use Rattle.au_syntax.specs.Sizes.{joined}
use Rattle.au_types.specs.declared.spaces.Space.TheVariants.{Callables}
use Rattle.au_types.specs.DeclaredNames.{callable_names, given, names_in, numbered}
use Rattle.au_types.specs.Tables as tables
use Rattle.au_types.proofs.TableLemmas.{find-firsts}
use Rattle.au_modules.specs.Programs.{ModuleParts}
use Rattle.au_names.specs.declared.targets.Target.{Target}
use Rattle.au_names.specs.Importing.{along, brings, brought, brought_from, earlier, given_name, imported, is_type, members}
use Rattle.au_names.specs.Importing.{members_of, place_of, renamed, source}
use Rattle.au_names.specs.Meanings.{imports_in, meanings, offered, part_of, pervasive}
use Rattle.au_names.specs.Owned.{declarations_in, declarations_of, exported, interface_of, own, targets}
use Rattle.au_names.specs.Owned.{target as target_here}
use Rattle.au_names.specs.Standing.{Standing, standing_at}
use Rattle.au_names.proofs.AmongLemmas.{Among, among-append, among-flat_map}
use Rattle.au_typing.specs.Written.{seen_at, seen_in}
use Rattle.au_closing_laws.proofs.GatheredLemmas.{among_filter, among_map}
use Rattle.au_closing_laws.proofs.HeadLemmas.{numbered_among, standing_numbered}
use Rattle.au_judged_programs.specs.CalledBodiesBodies.{is_function}
use Rattle.au_caps_laws.proofs.DefinedLemmas.{function_name}

-- ---- tables

-- what is found under a name stands in the table under it
found_pair : {V : Type 0} (name : Bytes) (pairs : List (Bytes × V)) (v : V) → tables.find name pairs ≡ Some v
    → (other : Bytes) × Among (other, v) pairs
found_pair name [] v e = absurd (none-some v e)
found_pair {V} name (p ∷ ps) v e = by (bytes_eq name p.0) e (found_pair name ps v)
  where
    by : (b : Bool) → cond b (Some p.1) (tables.find name ps) ≡ Some v
        → (tables.find name ps ≡ Some v → (other : Bytes) × Among (other, v) ps) → (other : Bytes) × Among (other, v)
        (p ∷ ps)
    by true e later = (p.0, inl (ap (λ (x : V). (p.0, x)) (same_Some p.1 v e)))
    by false e later = let its = later e in (its.0, inr its.1)

-- the names of a space with numbers are those of the declarations of these numbers
names_among : (ds : List (ℕ × PlainDeclaration)) (pair : Bytes × ℕ) → Among pair (names_in Callables ds)
    → (d : ℕ × PlainDeclaration) × Among d ds × (pair.1 ≡ d.0) × Among pair.0 (callable_names d.1)
unfolding names_in
names_among [] pair m = absurd m
names_among (d ∷ ds) pair m = by (among-append (given d.0 (callable_names d.1)) (names_in Callables ds) pair m)
    (names_among ds pair)
  where
    by : Among pair (given d.0 (callable_names d.1)) ⊎ Among pair (names_in Callables ds)
        → (Among pair (names_in Callables ds) → (e : ℕ × PlainDeclaration) × Among e ds × (pair.1 ≡ e.0)
        × Among pair.0 (callable_names e.1))
        → (e : ℕ × PlainDeclaration) × Among e (d ∷ ds) × (pair.1 ≡ e.0) × Among pair.0 (callable_names e.1)
    by (inl here) later =
        let its = among_map (λ (name : Bytes). (name, d.0)) pair (callable_names d.1) here in (
          d,
          inl refl,
          ap (λ (p : Bytes × ℕ). p.1) its.2,
          subst (λ (n : Bytes). Among n (callable_names d.1)) (sym (ap (λ (p : Bytes × ℕ). p.0) its.2)) its.1,
        )
    by (inr behind) later = let its = later behind in (its.0, inr its.1, its.2, its.3)

-- the cases of a union and the methods of a class are among the names that are called
member_names : (says : PlainDeclaration) (name : Bytes) → Among name (members says) → Among name (callable_names says)
member_names (union_type at n ps u cases) name m = m
member_names (class at n p methods) name m = m
member_names (constant at n t) name m = absurd m
member_names (opaque_type at n ps u) name m = absurd m
member_names (record_type at n ps u fields) name m = absurd m
member_names (function at gs h) name m = absurd m
member_names (instance at gs n t) name m = absurd m
member_names (constant_body at n t v) name m = absurd m
member_names (function_body at gs h block stop) name m = absurd m
member_names (instance_body at gs n t ms) name m = absurd m

found_in : {A : Type 0} (p : A → Bool) (xs : List A) (x : A) → find p xs ≡ Some x → Among x xs
found_in p [] x e = absurd (none-some x e)
found_in {A} p (y ∷ ys) x e = by (p y) e (found_in p ys x)
  where
    by : (b : Bool) → cond b (Some y) (find p ys) ≡ Some x → (find p ys ≡ Some x → Among x ys) → Among x (y ∷ ys)
    by true e later = inl (same_Some y x e)
    by false e later = inr (later e)

module _ (program : List ModuleParts) where
  -- a target is that of a declaration which has its name among those that are called
  pub record IsDeclaredAs (t : Target) : Type 0 where
    pub d : Standing
    pub found : standing_at program t.at ≡ Some d
    pub named : Among t.name (callable_names d.says)

  declared_as : (place : ℕ) (m : ModuleParts) → slice_get program place ≡ Some m → (d : ℕ × PlainDeclaration)
      → Among d (declarations_of m) → (t : Target) (name : Bytes) → t ≡ target_here place name d.0
      → Among name (callable_names d.1) → IsDeclaredAs t
  declared_as place m is d m_d t name same named =
      let its = numbered_among 0 (declarations_in m.interface ++ declarations_in m.body) d m_d in
      let zero_before : 0 + its.0 ≡ its.0 = omega arith in
      let stands = standing_numbered program place m its.0 d.1 is its.2 in
      record {
        d = stands.0;
        found = ap (standing_at program)
            (ap (λ (x : Target). x.at) same
            ∙ ap (λ (n : ℕ). record { «module» = place; decl = n }) (its.1 ∙ zero_before)) ∙ stands.1;
        named = subst (λ (n : Bytes). Among n (callable_names stands.0.says)) (sym (ap (λ (x : Target). x.name) same))
            (subst (λ (x : PlainDeclaration). Among name (callable_names x)) (sym stands.2) named);
      }

  -- the declarations of an interface are declarations of the module
  interface_among : (first : ℕ) (xs ys : List PlainDeclaration) (d : ℕ × PlainDeclaration)
      → Among d (numbered first xs) → Among d (numbered first (xs ++ ys))
  unfolding numbered
  interface_among first [] ys d m = absurd m
  interface_among first (x ∷ xs) ys d (inl here) = inl here
  interface_among first (x ∷ xs) ys d (inr later) = inr (interface_among (first + 1) xs ys d later)

  module _ (place : ℕ) (m : ModuleParts) (is : slice_get program place ≡ Some m) (other : Bytes) (t : Target) where
    of_names : (ds : List (ℕ × PlainDeclaration))
        → ((d : ℕ × PlainDeclaration) → Among d ds → Among d (declarations_of m))
        → Among (other, t) (targets place (names_in Callables ds)) → IsDeclaredAs t
    of_names ds within m_t =
        let its = among_map (λ (p : Bytes × ℕ). (p.0, target_here place p.0 p.1)) (other, t) (names_in Callables ds)
        m_t in
        let from = names_among ds its.0 its.1 in
        declared_as place m is from.0 (within from.0 from.1) t its.0.0
        (ap (λ (p : Bytes × Target). p.1) its.2 ∙ ap (target_here place its.0.0) from.2) from.3

    in_interface : (d : ℕ × PlainDeclaration) → Among d (interface_of m) → Among d (declarations_of m)
    in_interface d there = interface_among 0 (declarations_in m.interface) (declarations_in m.body) d there

    of_own : Among (other, t) (own Callables place m) → IsDeclaredAs t
    of_own = of_names (declarations_of m) (λ d there. there)

    of_exported : Among (other, t) (exported Callables place m) → IsDeclaredAs t
    of_exported = of_names (interface_of m) in_interface

  module _ (place : ℕ) (m : ModuleParts) (is : slice_get program place ≡ Some m) where
    of_renamed : (name local other : Bytes) (t : Target)
        → Among (other, t) (renamed name local (exported Callables place m)) → IsDeclaredAs t
    of_renamed name local other t there =
        let its = among_map (λ (p : Bytes × Target). (local, p.1)) (other, t)
        (filter (λ (p : Bytes × Target). bytes_eq name p.0) (exported Callables place m)) there in
        let from = among_filter (λ (p : Bytes × Target). bytes_eq name p.0) its.0 (exported Callables place m) its.1 in
        subst IsDeclaredAs (sym (ap (λ (p : Bytes × Target). p.1) its.2))
        (of_exported place m is its.0.0 its.0.1 from.0)

    of_members : (other : Bytes) (t : Target) (o : Option (ℕ × PlainDeclaration))
        → ((d : ℕ × PlainDeclaration) → o ≡ Some d → Among d (declarations_of m))
        → Among (other, t) (members_of place o) → IsDeclaredAs t
    of_members other t None within there = absurd there
    of_members other t (Some d) within there =
        let its = among_map (λ (p : Bytes × ℕ). (p.0, target_here place p.0 p.1)) (other, t)
        (given d.0 (members d.1)) there in
        let from = among_map (λ (name : Bytes). (name, d.0)) its.0 (members d.1) its.1 in
        declared_as place m is d (within d refl) t from.0
        (ap (λ (p : Bytes × Target). p.1) its.2
        ∙ ap (λ (p : Bytes × ℕ). target_here place p.0 p.1) from.2)
        (member_names d.1 from.0 from.1)

    of_brought : (item : Renaming Bytes) (other : Bytes) (t : Target)
        → Among (other, t) (brought Callables place m item) → IsDeclaredAs t
    of_brought item other t there =
        by (among-append (renamed item.name.name (given_name item) (exported Callables place m))
        (along place item.name.name (interface_of m)) (other, t) there)
      where
        by : Among (other, t) (renamed item.name.name (given_name item) (exported Callables place m))
            ⊎ Among (other, t) (along place item.name.name (interface_of m)) → IsDeclaredAs t
        by (inl here) = of_renamed item.name.name (given_name item) other t here
        by (inr behind) =
            of_members other t (find (is_type item.name.name) (interface_of m))
            (λ d e. interface_among 0 (declarations_in m.interface) (declarations_in m.body) d
            (found_in (is_type item.name.name) (interface_of m) d e)) behind

  -- the module that an import names is one of the program
  earlier_there : (place : ℕ) (o : Option ℕ) (other : ℕ × ModuleParts) → earlier program place o ≡ Some other
      → slice_get program other.0 ≡ Some other.1
  earlier_there place None other e = absurd (none-some other e)
  earlier_there place (Some n) other e = by (nat_lt n place) e
    where
      on : (o : Option ModuleParts) → slice_get program n ≡ o → option_map (λ (m : ModuleParts). (n, m)) o ≡ Some other
          → slice_get program other.0 ≡ Some other.1
      on None is e = absurd (none-some other e)
      on (Some m) is e =
          subst (λ (p : ℕ × ModuleParts). slice_get program p.0 ≡ Some p.1) (same_Some (n, m) other e) is

      by : (b : Bool) → cond b (option_map (λ (m : ModuleParts). (n, m)) (slice_get program n)) None ≡ Some other
          → slice_get program other.0 ≡ Some other.1
      by true e = on (slice_get program n) refl e
      by false e = absurd (none-some other e)

  of_source : (items : List (Renaming Bytes)) (o : Option (ℕ × ModuleParts))
      → ((x : ℕ × ModuleParts) → o ≡ Some x → slice_get program x.0 ≡ Some x.1) → (other : Bytes) (t : Target)
      → Among (other, t) (brought_from Callables items o) → IsDeclaredAs t
  of_source items None there other t m = absurd m
  of_source items (Some x) there other t m =
      let its = among-flat_map (brought Callables x.0 x.1) items (other, t) m in
      of_brought x.0 x.1 (there x refl) its.0 other t its.2

  of_imported : (place : ℕ) (imports : List (Importing Bytes)) (other : Bytes) (t : Target)
      → Among (other, t) (imported Callables program place imports) → IsDeclaredAs t
  of_imported place imports other t m =
      let its = among-flat_map (brings Callables program place) imports (other, t) m in
      of_source its.0.items (source program place its.0)
      (λ x e. earlier_there place (place_of program (joined its.0.from)) x e) other t its.2

  of_pervasive : (other : Bytes) (t : Target) → Among (other, t) (pervasive Callables program) → IsDeclaredAs t
  of_pervasive other t m = by (slice_get program 0) refl m
    where
      by : (o : Option ModuleParts) → slice_get program 0 ≡ o → Among (other, t) (offered Callables 0 o)
          → IsDeclaredAs t
      by None is m = absurd m
      by (Some x) is m = of_exported 0 x is other t m

  -- what a name means that is called in a part of a module is declared under its own name
  pub target_declared : (place : ℕ) (part : Part) (name : Bytes) (t : Target)
      → tables.find name (seen_at Callables program place part) ≡ Some t → IsDeclaredAs t
  target_declared place part name t e = by (slice_get program place) refl e
    where
      among_all : (m : ModuleParts) → slice_get program place ≡ Some m
          → tables.find name (meanings Callables program place m part) ≡ Some t → IsDeclaredAs t
      among_all m is e =
          let its = found_pair name (meanings Callables program place m part) t e in
          from its.0 (among-append
          (own Callables place m ++ imported Callables program place (imports_in (part_of part m)))
          (pervasive Callables program) (its.0, t) its.1)
        where
          first : (other : Bytes) → Among (other, t) (own Callables place m)
              ⊎ Among (other, t) (imported Callables program place (imports_in (part_of part m))) → IsDeclaredAs t
          first other (inl here) = of_own place m is other t here
          first other (inr behind) = of_imported place (imports_in (part_of part m)) other t behind

          from : (other : Bytes)
              → Among (other, t) (own Callables place m ++ imported Callables program place
              (imports_in (part_of part m)))
              ⊎ Among (other, t) (pervasive Callables program) → IsDeclaredAs t
          from other (inl here) =
              first other (among-append (own Callables place m)
              (imported Callables program place (imports_in (part_of part m))) (other, t) here)
          from other (inr behind) = of_pervasive other t behind

      by : (o : Option ModuleParts) → slice_get program place ≡ o
          → tables.find name (seen_in Callables program place part o) ≡ Some t → IsDeclaredAs t
      by None is e = absurd (none-some t e)
      by (Some m) is e =
          among_all m is (sym (find-firsts name (meanings Callables program place m part)) ∙ e)

  -- so a function has the name of its target
  only_name : (says : PlainDeclaration) (name : Bytes) → is_function says ≡ true → Among name (callable_names says)
      → function_name says ≡ Some name
  only_name (function at gs h) name is (inl here) = ap (λ (x : Bytes). Some x) here
  only_name (function at gs h) name is (inr later) = absurd later
  only_name (function_body at gs h block stop) name is (inl here) = ap (λ (x : Bytes). Some x) here
  only_name (function_body at gs h block stop) name is (inr later) = absurd later
  only_name (constant at n t) name is m = absurd (true≢false (sym is))
  only_name (opaque_type at n ps u) name is m = absurd (true≢false (sym is))
  only_name (record_type at n ps u fields) name is m = absurd (true≢false (sym is))
  only_name (union_type at n ps u cases) name is m = absurd (true≢false (sym is))
  only_name (class at n p hs) name is m = absurd (true≢false (sym is))
  only_name (instance at gs n t) name is m = absurd (true≢false (sym is))
  only_name (constant_body at n t v) name is m = absurd (true≢false (sym is))
  only_name (instance_body at gs n t ms) name is m = absurd (true≢false (sym is))

  pub function_named : (place : ℕ) (part : Part) (name : Bytes) (t : Target)
      → tables.find name (seen_at Callables program place part) ≡ Some t → (d : Standing)
      → standing_at program t.at ≡ Some d → is_function d.says ≡ true → function_name d.says ≡ Some t.name
  function_named place part name t e d found is =
      let its = target_declared place part name t e in
      only_name d.says t.name is
      (subst (λ (x : Standing). Among t.name (callable_names x.says)) (same_Some its.d d (sym its.found ∙ found))
      its.named)
