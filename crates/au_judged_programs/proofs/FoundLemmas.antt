-- The function at which a run begins has the form of an entry: what its name means in the body of its module is defined
-- by the function that is found there.
use Rattle.std.proofs.Common.{◌≡◌, ◌⊎◌, inl, inr, ℕ, zero, suc, ◌+◌, ◌<◌, ◌≤◌, Bool, true, false, true≢false, cond, not, List}
use Rattle.std.proofs.Common.{[], ◌∷◌, ◌++◌, length, map, find, Option, None, Some, refl, sym, ap, ◌∙◌, subst, arith}
use Rattle.std.specs.Prelude.{slice_get, if◌then◌else◌}
use Rattle.std.specs.List.{flat_map, position, position_or_len}
use Rattle.std.specs.Option.{option_map, option_or}
use Rattle.std.specs.Str.{bytes_eq}
use Rattle.std.proofs.lemmas.List.Folds.{find_at}
use Rattle.std.proofs.lemmas.Option.{none-some, same_Some, slice_get_within}
use Rattle.std.proofs.lemmas.Slice.Eq.{bytes_eq-Decides}
use Rattle.au_base.specs.declared.places.Pos.{Pos}
use Rattle.au_base.proofs.ListLemmas.{get_right, in_either}
use Rattle.au_syntax.specs.declared.modules.Part.{Part}
use Rattle.au_syntax.specs.declared.modules.Part.TheVariants.{Interface, Body}
use Rattle.au_syntax.specs.Forms.{formed_declaration}
use Rattle.au_syntax.specs.Modules.{Constrained, Header, Variant, constant, opaque_type, record_type, union_type, function}
use Rattle.au_syntax.specs.Modules.{class, instance, constant_body, function_body, instance_body}
use Rattle.au_syntax.specs.Plain.{Bytes, PlainDeclaration}
use Rattle.au_types.specs.DeclaredNames.{callable_names, given, names_in, numbered}
use Rattle.au_types.specs.declared.spaces.Space.TheVariants.{Callables}
use Rattle.au_types.specs.Tables as tables
use Rattle.au_types.proofs.TableLemmas.{find-firsts, find-front}
use Rattle.au_modules.specs.Programs.{Entry, ModuleParts}
use Rattle.au_modules.specs.Seen.{body_tree}
use Rattle.au_names.specs.declared.targets.Target.{Target}
use Rattle.au_names.specs.Exporting.{declarations_seen}
use Rattle.au_names.specs.HeadsOf.{heads_of}
use Rattle.au_names.specs.Importing.{imported, place_of}
use Rattle.au_names.specs.Meanings.{imports_in, meanings, part_of, pervasive}
use Rattle.au_names.specs.Owned.{declarations_in, own, target as target_here, targets}
use Rattle.au_names.specs.Standing.{Standing, body_standing, module_standing, standing_at, standing_from, standing_in}
use Rattle.au_names.proofs.AmongLemmas.{Among, among-append_left, among-append_right, among-flat_map_from}
use Rattle.au_names.proofs.StandingLemmas.{from_length}
use Rattle.au_promises.specs.Agreeing.{sight_of}
use Rattle.au_promises.specs.Promises.{defines}
use Rattle.au_rules.specs.declared.marks.Kind.TheVariants as kinds
use Rattle.au_rules.specs.declared.marks.Mark.{Mark}
use Rattle.au_rules.specs.declared.marks.Mark.TheVariants.{Closes, Declares}
use Rattle.au_rules.specs.declared.marks.Role.{Role}
use Rattle.au_rules.specs.declared.marks.Role.TheVariants.{Whole, Promise, Definition}
use Rattle.au_rules.specs.Marks.{case_marks, enclosed, function_marks, generic_mark, labelled_mark, marks, method_marks}
use Rattle.au_rules.specs.Marks.{block_marks, parameter_mark}
use Rattle.au_rules.specs.declared.marks.Kind.TheVariants.{Values}
use Rattle.au_rules.specs.Once.{AllNamesAreOnce}
use Rattle.au_closing_laws.specs.Premises.{AreOfParts}
use Rattle.au_closing_laws.proofs.FactLemmas.{parts_hold}
use Rattle.au_closing_laws.proofs.GatheredLemmas.{among_map}
use Rattle.au_closing_laws.proofs.MeantLemmas.{placed}
use Rattle.au_closing_laws.proofs.OnceLemmas.{module_new, two_declared}
use Rattle.au_closing_laws.proofs.ShippedMethodLemmas.{standing_get, stands_defined, stands_promised}
use Rattle.au_closing_laws.proofs.OwnTypeLemmas.{ordered}
use Rattle.au_judged_bodies.specs.Bodies.{defining_in}
use Rattle.au_judged_bodies.specs.Entries.{Found, Function, begins, entry_of, form_at, form_of, formed, found_at, found_in}
use Rattle.au_judged_bodies.specs.Entries.{function_among, function_at, function_in, meant_as, not_of_the_form, nowhere}
use Rattle.au_judged_bodies.specs.Entries.{target_at}
use Rattle.au_judged_bodies.specs.Trees.{NotedParts, erase_program}
use Rattle.au_judged_bodies.specs.Written.{seen_in, types_at}
use Rattle.au_judged_programs.specs.CheckedChecked.{IsChecked}
use Rattle.au_judged_programs.specs.Entries.{IsEntryHere}
use Rattle.au_judged_programs.proofs.CalledBodiesBodyLemmas.{HasBody, body_from, written_function}

-- ---- lists

-- the first item that passes has its place
position_is : {A : Type 0} (p : A → Bool) (xs : List A) (i : ℕ) (x : A) → slice_get xs i ≡ Some x → p x ≡ true
    → ((k : ℕ) (y : A) → k < i → slice_get xs k ≡ Some y → p y ≡ false) → position_or_len p xs ≡ i
position_is p [] i x e passes before = absurd (none-some x e)
position_is p (z ∷ xs) zero x e passes before =
    ap (λ b. cond (not b) (1 + position_or_len p xs) 0) (ap p (same_Some z x e) ∙ passes)
position_is p (z ∷ xs) (suc i) x e passes before =
    let later = position_is p xs i x e passes (λ k y less there. before (suc k) y (omega (arith, less)) there) in
    ap (λ b. cond (not b) (1 + position_or_len p xs) 0) (before 0 z (omega arith) refl) ∙ omega (arith, later)

placed_at : {A : Type 0} (p : A → Bool) (xs : List A) (i : ℕ) (x : A) → slice_get xs i ≡ Some x → p x ≡ true
    → ((k : ℕ) (y : A) → k < i → slice_get xs k ≡ Some y → p y ≡ false) → position p xs ≡ Some i
placed_at p xs i x e passes before =
    let is = position_is p xs i x e passes before in
    placed p xs x (find_at p xs ∙ ap (slice_get xs) is ∙ e) ∙ ap (λ n. Some n) is

-- ---- the first function of a name with a body

record FirstFunction (name : Bytes) (ds : List PlainDeclaration) (f : Function) : Type 0 where
  index : ℕ
  says : PlainDeclaration
  there : slice_get ds index ≡ Some says
  is : function_in name says ≡ Some f
  before : (k : ℕ) (y : PlainDeclaration) → k < index → slice_get ds k ≡ Some y → function_in name y ≡ None

function_first : (name : Bytes) (ds : List PlainDeclaration) (f : Function) → function_among name ds ≡ Some f
    → FirstFunction name ds f
function_first name [] f e = absurd (none-some f e)
function_first name (d ∷ ds) f e = by (function_in name d) refl e (function_first name ds f)
  where
    by : (o : Option Function) → function_in name d ≡ o → option_or o (function_among name ds) ≡ Some f
        → (function_among name ds ≡ Some f → FirstFunction name ds f) → FirstFunction name (d ∷ ds) f
    by (Some g) is e later = record {
      index = 0;
      says = d;
      there = refl;
      is = is ∙ e;
      before = λ k y less. absurd (omega (arith, less));
    }
    by None isnt e later = record {
      index = suc its.index;
      says = its.says;
      there = its.there;
      is = its.is;
      before = earlier;
    }
      where
        its : FirstFunction name ds f
        its = later e

        earlier : (k : ℕ) (y : PlainDeclaration) → k < suc its.index → slice_get (d ∷ ds) k ≡ Some y
            → function_in name y ≡ None
        earlier zero y less there = subst (λ x. function_in name x ≡ None) (same_Some d y there) isnt
        earlier (suc k) y less there = its.before k y (omega (arith, less)) there

-- it is written with these type parameters and this header, and has the name
written_in : (name : Bytes) (says : PlainDeclaration) (f : Function) → function_in name says ≡ Some f
    → (written_function says ≡ Some (f.generics, f.header)) × (f.header.name.name ≡ name)
    × Among name (callable_names says)
written_in name (function_body at gs h block stop) f e = by (bytes_eq name h.name.name) refl e
  where
    by : (b : Bool) → bytes_eq name h.name.name ≡ b
        → (if b then Some (record { at = at; generics = gs; header = h }) else None) ≡ Some f
        → ◌≡◌ {A = Option (List (Constrained Bytes) × Header Bytes)} (Some (gs, h)) (Some (f.generics, f.header))
        × (f.header.name.name ≡ name)
        × Among name (h.name.name ∷ [])
    by true same e =
        let its = same_Some (record { at = at; generics = gs; header = h }) f e in
        let named : h.name.name ≡ name = sym ((bytes_eq-Decides name h.name.name).0 same) in (
          ap (λ (g : Function). Some (g.generics, g.header)) its,
          sym (ap (λ (g : Function). g.header.name.name) its) ∙ named,
          inl named,
        )
    by false same e = absurd (none-some f e)
written_in name other f e = absurd (none-some f e)

-- ---- how a declaration declares what is called

abbrev callable_role : PlainDeclaration → Role
callable_role (function at gs h) = Promise
callable_role (function_body at gs h block stop) = Definition
callable_role other = Whole

inside : (m : Mark) (ms : List Mark) → Among m ms → Among m (enclosed ms)
inside m ms a = inr (among-append_left ms (Closes ∷ []) m a)

abbrev Marked : Part → PlainDeclaration → Bytes → Type 0
Marked part says name = (pos : Pos) × Among (Declares (callable_role says) kinds.Callables name pos) (marks part says)

in_header : (role : Role) (gs : List (Constrained Bytes)) (h : Header Bytes) (name : Bytes) → h.name.name ≡ name
    → Among (Declares role kinds.Callables name h.name.at) (function_marks role gs h)
in_header role gs h name is =
    among-append_right (map generic_mark gs)
    (Declares role kinds.Callables h.name.name h.name.at ∷ map (labelled_mark Values) h.parameters)
    (Declares role kinds.Callables name h.name.at) (inl (ap (λ x. Declares role kinds.Callables x h.name.at) is))

callable_marked : (part : Part) (says : PlainDeclaration) (name : Bytes) → Among name (callable_names says)
    → Marked part says name
callable_marked part (record_type at n ps u fields) name (inl is) =
    (n.at, inr (inl (ap (λ x. Declares Whole kinds.Callables x n.at) is)))
callable_marked part (record_type at n ps u fields) name (inr later) = absurd later
callable_marked part (union_type at n ps u cases) name m =
    let its = among_map (λ (c : Variant Bytes). c.name.name) name cases m in
    let mark = Declares Whole kinds.Callables name its.0.name.at in (
      its.0.name.at,
      inr (inside mark (map parameter_mark ps ++ flat_map case_marks cases)
          (among-append_right (map parameter_mark ps) (flat_map case_marks cases) mark
          (among-flat_map_from case_marks cases its.0 mark its.1
          (inl (ap (λ x. Declares Whole kinds.Callables x its.0.name.at) (sym its.2)))))),
    )
callable_marked part (class at n p methods) name m =
    let its = among_map (λ (h : Header Bytes). h.name.name) name methods m in
    let mark = Declares Whole kinds.Callables name its.0.name.at in (
      its.0.name.at,
      inr (inside mark (parameter_mark p ∷ flat_map method_marks methods)
          (inr (among-flat_map_from method_marks methods its.0 mark its.1
          (inl (ap (λ x. Declares Whole kinds.Callables x its.0.name.at) (sym its.2)))))),
    )
callable_marked part (function at gs h) name (inl is) = (
  h.name.at,
  inside (Declares Promise kinds.Callables name h.name.at) (function_marks Promise gs h)
      (in_header Promise gs h name is),
)
callable_marked part (function at gs h) name (inr later) = absurd later
callable_marked part (function_body at gs h block stop) name (inl is) =
    let mark = Declares Definition kinds.Callables name h.name.at in (
      h.name.at,
      inside mark (function_marks Definition gs h ++ block_marks block)
          (among-append_left (function_marks Definition gs h) (block_marks block) mark
          (in_header Definition gs h name is)),
    )
callable_marked part (function_body at gs h block stop) name (inr later) = absurd later
callable_marked part (constant at n t) name m = absurd m
callable_marked part (opaque_type at n ps u) name m = absurd m
callable_marked part (instance at gs n t) name m = absurd m
callable_marked part (constant_body at n t v) name m = absurd m
callable_marked part (instance_body at gs n t ms) name m = absurd m

-- ---- what a name of the module means there

module _ (place : ℕ) (name : Bytes) where
  abbrev found_in_names : List (Bytes × ℕ) → Option Target
  found_in_names names = tables.find name (targets place names)

  given_first : (number : ℕ) (names : List Bytes) (rest : List (Bytes × ℕ))
      → (Among name names × (found_in_names (given number names ++ rest) ≡ Some (target_here place name number)))
      ⊎ ((Among name names → ⊥) × (found_in_names (given number names ++ rest) ≡ found_in_names rest))
  given_first number [] rest = inr ((λ m. m), refl)
  given_first number (x ∷ names) rest = by (bytes_eq name x) refl (given_first number names rest)
    where
      by : (b : Bool) → bytes_eq name x ≡ b
          → (Among name names × (found_in_names (given number names ++ rest) ≡ Some (target_here place name number)))
          ⊎ ((Among name names → ⊥) × (found_in_names (given number names ++ rest) ≡ found_in_names rest))
          → (Among name (x ∷ names) × (cond b (Some (target_here place x number))
          (found_in_names (given number names ++ rest)) ≡ Some (target_here place name number)))
          ⊎ ((Among name (x ∷ names) → ⊥) × (cond b (Some (target_here place x number))
          (found_in_names (given number names ++ rest)) ≡ found_in_names rest))
      by true same later =
          let is : name ≡ x = (bytes_eq-Decides name x).0 same in
          inl (inl (sym is), ap (λ y. Some (target_here place y number)) (sym is))
      by false same (inl its) = inl (inr its.0, its.1)
      by false same (inr its) = inr (other, its.1)
        where
          other : Among name (x ∷ names) → ⊥
          other (inl is) = true≢false (sym ((bytes_eq-Decides name x).1 (sym is)) ∙ same)
          other (inr m) = its.0 m

  -- what is called so is found by its first declaration
  record FirstCallable (first : ℕ) (ds : List PlainDeclaration) (j : ℕ) : Type 0 where
    number : ℕ
    says : PlainDeclaration
    before : number ≤ j
    there : slice_get ds number ≡ Some says
    has : Among name (callable_names says)
    found : found_in_names (names_in Callables (numbered first ds)) ≡ Some (target_here place name (first + number))

  callable_first : (first : ℕ) (ds : List PlainDeclaration) (j : ℕ) (says : PlainDeclaration)
      → slice_get ds j ≡ Some says → Among name (callable_names says) → FirstCallable first ds j
  unfolding names_in numbered
  callable_first first [] j says e m = absurd (none-some says e)
  callable_first first (d ∷ ds) zero says e m =
      by (given_first first (callable_names d) (names_in Callables (numbered (first + 1) ds)))
    where
      by : (Among name (callable_names d)
          × (found_in_names (given first (callable_names d) ++ names_in Callables (numbered (first + 1) ds))
          ≡ Some (target_here place name first)))
          ⊎ ((Among name (callable_names d) → ⊥)
          × (found_in_names (given first (callable_names d) ++ names_in Callables (numbered (first + 1) ds))
          ≡ found_in_names (names_in Callables (numbered (first + 1) ds)))) → FirstCallable first (d ∷ ds) 0
      by (inl its) = record {
        number = 0;
        says = d;
        before = omega arith;
        there = refl;
        has = its.0;
        found = its.1 ∙ ap (λ n. Some (target_here place name n)) (at_zero first);
      }
        where
          at_zero : (n : ℕ) → n ≡ n + 0
          at_zero n = omega arith
      by (inr its) = absurd (its.0 (subst (λ x. Among name (callable_names x)) (sym (same_Some d says e)) m))
  callable_first first (d ∷ ds) (suc j) says e m =
      by (given_first first (callable_names d) (names_in Callables (numbered (first + 1) ds)))
      (callable_first (first + 1) ds j says e m)
    where
      by : (Among name (callable_names d)
          × (found_in_names (given first (callable_names d) ++ names_in Callables (numbered (first + 1) ds))
          ≡ Some (target_here place name first)))
          ⊎ ((Among name (callable_names d) → ⊥)
          × (found_in_names (given first (callable_names d) ++ names_in Callables (numbered (first + 1) ds))
          ≡ found_in_names (names_in Callables (numbered (first + 1) ds)))) → FirstCallable (first + 1) ds j
          → FirstCallable first (d ∷ ds) (suc j)
      by (inl its) later = record {
        number = 0;
        says = d;
        before = omega arith;
        there = refl;
        has = its.0;
        found = its.1 ∙ ap (λ n. Some (target_here place name n)) (at_zero first);
      }
        where
          at_zero : (n : ℕ) → n ≡ n + 0
          at_zero n = omega arith
      by (inr its) later = record {
        number = suc later.number;
        says = later.says;
        before = omega (arith, later.before);
        there = later.there;
        has = later.has;
        found = its.1 ∙ later.found ∙ ap (λ n. Some (target_here place name n)) (shifted first later.number);
      }
        where
          shifted : (n k : ℕ) → (n + 1) + k ≡ n + suc k
          shifted n k = omega arith

-- ---- the body of what the name means

seen_declarations : (o : Option Entry) → declarations_seen (option_map (λ (e : Entry). e.tree) o) ≡ declarations_in o
seen_declarations None = refl
seen_declarations (Some e) = refl

module _ (program : List ModuleParts) (noted : List NotedParts) (erased : erase_program noted ≡ program)
    (parts : AreOfParts program) (once : AllNamesAreOnce program) (place : ℕ) (name : Bytes) (f : Function)
    (m : ModuleParts) (is : slice_get program place ≡ Some m)
    (first : FirstFunction name (declarations_in m.body) f) where
  abbrev HasItsBody : Target → Type 0
  HasItsBody t = HasBody program noted t place f.generics f.header

  abbrev above : List Standing
  above = standing_from place Interface 0 (declarations_in m.interface)

  written : written_function first.says ≡ Some (f.generics, f.header)
  written = (written_in name first.says f first.is).0

  defines_role : (says : PlainDeclaration) → written_function says ≡ Some (f.generics, f.header)
      → callable_role says ≡ Definition
  defines_role (function_body at gs h block stop) e = refl
  defines_role other e = absurd (none-some (f.generics, f.header) e)

  -- nothing whole of its name stands before it
  no_whole : (k : ℕ) (d : Standing) → slice_get (module_standing place m) k ≡ Some d → k < length above + first.index
      → Among name (callable_names d.says) → callable_role d.says ≡ Whole → ⊥
  no_whole k d at less has whole =
      let its : Standing = record { place = place; part = Body; index = 0 + first.index; says = first.says } in
      let there : slice_get (module_standing place m) (length above + first.index) ≡ Some its =
      get_right above (body_standing place m) first.index
      ∙ standing_get place Body 0 (declarations_in m.body) first.index first.says first.there in
      let one = callable_marked d.part d.says name has in
      let two = callable_marked Body first.says name (written_in name first.says f first.is).2 in
      let roles = two_declared (module_standing place m) (module_new program place m (once place m is)) k
      (length above + first.index) d its kinds.Callables name Whole Definition one.0 two.0 less at there
      (subst (λ r. Among (Declares r kinds.Callables name one.0) (marks d.part d.says)) whole one.1)
      (subst (λ r. Among (Declares r kinds.Callables name two.0) (marks Body first.says))
      (defines_role first.says written) two.1) tt tt in
      let differs : Whole ≡ Promise = roles.0 in absurd cc

  -- what the interface declares is promised, and the function defines it
  promised_there : (k : ℕ) (says : PlainDeclaration) → slice_get (declarations_in m.interface) k ≡ Some says
      → Among name (callable_names says) → HasItsBody (target_here place name k)
  promised_there k says at has = by says refl has
    where
      d : Standing
      d = record { place = place; part = Interface; index = k; says = says }

      found : standing_at program (record { «module» = place; decl = k }) ≡ Some d
      found = stands_promised program (record { «module» = place; decl = k }) m says is at

      there : slice_get (module_standing place m) k ≡ Some d
      there = sym (ap (standing_in place k) is) ∙ found

      earlier : k < length above + first.index
      earlier =
          let within = slice_get_within (declarations_in m.interface) k says at in
          let long = from_length place Interface 0 (declarations_in m.interface) in
          omega (arith, within, long)

      by : (x : PlainDeclaration) → says ≡ x → Among name (callable_names x) → HasItsBody (target_here place name k)
      by (function pos gs h) same (inl named) =
          body_from program noted erased (target_here place name k) d found first.index m first.says f.generics
          f.header is
          first.there written
          (ap (λ o. defining_in program place o says) is
          ∙ ap (defining_in program place (Some m)) same
          ∙ ap (position (defines (sight_of program place m) (function pos gs h))) (seen_declarations m.body)
          ∙ placed_at (defines (sight_of program place m) (function pos gs h)) (declarations_in m.body) first.index
          first.says first.there (passes first.says first.is) before)
        where
          passes : (x : PlainDeclaration) → function_in name x ≡ Some f
              → defines (sight_of program place m) (function pos gs h) x ≡ true
          passes (function_body at others its block stop) e =
              let its_name = written_in name (function_body at others its block stop) f e in
              let same_header : its ≡ f.header =
              ap (λ (p : List (Constrained Bytes) × Header Bytes). p.1)
              (same_Some (others, its) (f.generics, f.header) its_name.0) in
              (bytes_eq-Decides h.name.name its.name.name).1
              (named ∙ sym its_name.1 ∙ sym (ap (λ (k : Header Bytes). k.name.name) same_header))
          passes other e = absurd (none-some f e)

          before : (j : ℕ) (y : PlainDeclaration) → j < first.index → slice_get (declarations_in m.body) j ≡ Some y
              → defines (sight_of program place m) (function pos gs h) y ≡ false
          before j y less at_j = on y (first.before j y less at_j)
            where
              on : (x : PlainDeclaration) → function_in name x ≡ None
                  → defines (sight_of program place m) (function pos gs h) x ≡ false
              on (function_body at others its block stop) e =
                  to (bytes_eq h.name.name its.name.name) refl
                where
                  to : (b : Bool) → bytes_eq h.name.name its.name.name ≡ b → b ≡ false
                  to false differ = refl
                  to true equal =
                      let same_name : name ≡ its.name.name =
                      sym named ∙ (bytes_eq-Decides h.name.name its.name.name).0 equal in
                      absurd (none-some (record { at = at; generics = others; header = its })
                      (sym e ∙ ap (λ c. if c then Some (record { at = at; generics = others; header = its }) else None)
                      ((bytes_eq-Decides name its.name.name).1 same_name)))
              on other e = refl
      by (function pos gs h) same (inr later) = absurd later
      by (function_body pos gs h block stop) same m_there =
          absurd (true≢false (sym (parts (record { «module» = place; decl = k }) d found)
          ∙ ap (formed_declaration Interface) same))
      by (record_type pos n ps u fields) same m_there =
          absurd (no_whole k d there earlier has (ap callable_role same))
      by (union_type pos n ps u cases) same m_there =
          absurd (no_whole k d there earlier has (ap callable_role same))
      by (class pos n p methods) same m_there = absurd (no_whole k d there earlier has (ap callable_role same))
      by (constant pos n t) same m_there = absurd m_there
      by (opaque_type pos n ps u) same m_there = absurd m_there
      by (instance pos gs n t) same m_there = absurd m_there
      by (constant_body pos n t v) same m_there = absurd m_there
      by (instance_body pos gs n t ms) same m_there = absurd m_there

  -- what the body declares is the function itself
  defined_there : (j : ℕ) (says : PlainDeclaration) → j ≤ first.index
      → slice_get (declarations_in m.body) j ≡ Some says → Among name (callable_names says)
      → HasItsBody (target_here place name (length (declarations_in m.interface) + j))
  defined_there j says upto at has = by (ordered j first.index)
    where
      number : ℕ
      number = length (declarations_in m.interface) + j

      d : Standing
      d = record { place = place; part = Body; index = j; says = says }

      found : standing_at program (record { «module» = place; decl = number }) ≡ Some d
      found = stands_defined program (record { «module» = place; decl = number }) m j says is refl at

      there : slice_get (module_standing place m) (length above + j) ≡ Some d
      there =
          get_right above (body_standing place m) j
          ∙ standing_get place Body 0 (declarations_in m.body) j says at
          ∙ ap (λ n. Some (record { place = place; part = Body; index = n; says = says })) (zero_before j)
        where
          zero_before : (n : ℕ) → 0 + n ≡ n
          zero_before n = omega arith

      none_before : j < first.index → (x : PlainDeclaration) → says ≡ x → Among name (callable_names x) → ⊥
      none_before less (function_body pos gs h block stop) same (inl named) =
          none-some (record { at = pos; generics = gs; header = h })
          (sym (first.before j says less at) ∙ ap (function_in name) same
          ∙ ap (λ c. if c then Some (record { at = pos; generics = gs; header = h }) else None)
          ((bytes_eq-Decides name h.name.name).1 (sym named)))
      none_before less (function_body pos gs h block stop) same (inr later) = later
      none_before less (function pos gs h) same m_there =
          true≢false (sym (parts (record { «module» = place; decl = number }) d found)
          ∙ ap (formed_declaration Body) same)
      none_before less (record_type pos n ps u fields) same m_there =
          no_whole (length above + j) d there (omega (arith, less)) has (ap callable_role same)
      none_before less (union_type pos n ps u cases) same m_there =
          no_whole (length above + j) d there (omega (arith, less)) has (ap callable_role same)
      none_before less (class pos n p methods) same m_there =
          no_whole (length above + j) d there (omega (arith, less)) has (ap callable_role same)
      none_before less (constant pos n t) same m_there = m_there
      none_before less (opaque_type pos n ps u) same m_there = m_there
      none_before less (instance pos gs n t) same m_there = m_there
      none_before less (constant_body pos n t v) same m_there = m_there
      none_before less (instance_body pos gs n t ms) same m_there = m_there

      by : (j < first.index) ⊎ ((j ≡ first.index) ⊎ (first.index < j)) → HasItsBody (target_here place name number)
      by (inl less) = absurd (none_before less says refl has)
      by (inr (inl same)) =
          body_from program noted erased (target_here place name number) d found first.index m first.says f.generics
          f.header is first.there written (ap (λ n. Some n) same)
      by (inr (inr more)) = absurd (omega (arith, upto, more))

  -- what its name means in the body of its module has its body
  meant_there : (t : Target) → target_at program place name ≡ Some t → HasItsBody t
  meant_there t means = subst HasItsBody same (on (in_either (declarations_in m.interface) (declarations_in m.body)
      its.number its.says its.there))
    where
      its : FirstCallable place name 0 (declarations_in m.interface ++ declarations_in m.body)
          (length (declarations_in m.interface) + first.index)
      its = callable_first place name 0 (declarations_in m.interface ++ declarations_in m.body)
          (length (declarations_in m.interface) + first.index) first.says
          (get_right (declarations_in m.interface) (declarations_in m.body) first.index ∙ first.there)
          (written_in name first.says f first.is).2

      brought : List (Bytes × Target)
      brought = imported Callables program place (imports_in (part_of Body m))

      same : target_here place name its.number ≡ t
      same = same_Some (target_here place name its.number) t
          (sym (ap (λ o. tables.find name (seen_in Callables program place Body o)) is
          ∙ find-firsts name (meanings Callables program place m Body)
          ∙ find-front name (own Callables place m ++ brought) (pervasive Callables program)
          (target_here place name (0 + its.number))
          (find-front name (own Callables place m) brought (target_here place name (0 + its.number)) its.found)
          ∙ ap (λ n. Some (target_here place name n)) (zero_before its.number)) ∙ means)
        where
          zero_before : (n : ℕ) → 0 + n ≡ n
          zero_before n = omega arith

      on : (slice_get (declarations_in m.interface) its.number ≡ Some its.says)
          ⊎ ((j : ℕ) × (its.number ≡ length (declarations_in m.interface) + j)
          × (slice_get (declarations_in m.body) j ≡ Some its.says)) → HasItsBody (target_here place name its.number)
      on (inl at) = promised_there its.number its.says at its.has
      on (inr (j, number, at)) =
          subst (λ n. HasItsBody (target_here place name n)) (sym number)
          (defined_there j its.says (upto j number its.before) at its.has)
        where
          upto : (k : ℕ) → its.number ≡ length (declarations_in m.interface) + k
              → its.number ≤ length (declarations_in m.interface) + first.index → k ≤ first.index
          upto k e less = omega (arith, e, less)

-- ---- the function at which a run begins

abbrev target_in : Found → Option (Target × Bool)
target_in (begins t root) = Some (t, root)
target_in nowhere = None
target_in (not_of_the_form at) = None

module _ (program : List ModuleParts) (noted : List NotedParts) (checked : IsChecked program noted) (name : Bytes)
    (target : Target) (root : Bool) where
  abbrev Begins : Found → Type 0
  Begins found = found ≡ begins target root

  formed_so : (at : Pos) (t : Target) (o : Option Bool) → Begins (formed at t o) → (t ≡ target) × (o ≡ Some root)
  formed_so at t None e = absurd (none-some (target, root) (ap target_in e))
  formed_so at t (Some b) e =
      let same : (t, b) ≡ (target, root) = same_Some (t, b) (target, root) (ap target_in e) in (
        ap (λ (p : Target × Bool). p.0) same,
        ap (λ (p : Target × Bool). Some p.1) same,
      )

  module _ (place : ℕ) where
    entry_is : (f : Function) → form_at program place f ≡ Some root → HasBody program noted target place f.generics
        f.header
        → IsEntryHere program noted target
    entry_is f form (body, there, at, generics, header) = record {
      body = body;
      there = there;
      root = root;
      form = ap (λ n. form_of (types_at program n Body) (heads_of program) body.generics body.header) at
          ∙ ap (λ gs. form_of (types_at program place Body) (heads_of program) gs body.header) generics
          ∙ ap (form_of (types_at program place Body) (heads_of program) f.generics) header ∙ form;
    }

    within : (f : Function) (o : Option ModuleParts) → slice_get program place ≡ o
        → function_among name (declarations_seen (body_tree o)) ≡ Some f
        → (t : Target) → target_at program place name ≡ Some t → HasBody program noted t place f.generics f.header
    within f None is e = absurd (none-some f e)
    within f (Some m) is e =
        meant_there program noted checked.derives.erased (parts_hold program checked.gathered) checked.declared.once
        place
        name f m is
        (function_first name (declarations_in m.body) f
        (ap (function_among name) (sym (seen_declarations m.body)) ∙ e))

    by_target : (f : Function) → function_at program place name ≡ Some f → (o : Option Target)
        → target_at program place name ≡ o → Begins (meant_as program place f o) → IsEntryHere program noted target
    by_target f at None means e = absurd (none-some (target, root) (ap target_in e))
    by_target f at (Some t) means e =
        let its = formed_so f.at t (form_at program place f) e in
        entry_is f its.1
        (subst (λ x. HasBody program noted x place f.generics f.header) its.0
        (within f (slice_get program place) refl at t means))

    by_function : (o : Option Function) → function_at program place name ≡ o → Begins (found_at program place name o)
        → IsEntryHere program noted target
    by_function None at e = absurd (none-some (target, root) (ap target_in e))
    by_function (Some f) at e = by_target f at (target_at program place name) refl e

  by_place : (o : Option ℕ) → Begins (found_in program name o) → IsEntryHere program noted target
  by_place None e = absurd (none-some (target, root) (ap target_in e))
  by_place (Some place) e = by_function place (function_at program place name) refl e

-- the entry that is found has the form of one
pub found_entry : (program : List ModuleParts) (noted : List NotedParts) → IsChecked program noted
    → (owner name : Bytes) (target : Target) (root : Bool) → entry_of program owner name ≡ begins target root
    → IsEntryHere program noted target
found_entry program noted checked owner name target root e =
    by_place program noted checked name target root (place_of program owner) e
