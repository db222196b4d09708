-- One slot for each number of a declaration.
use Rattle.std.proofs.Common.{◌≡◌, ℕ, zero, suc, ◌+◌, ◌-◌, ◌<◌, ◌≤◌, Bool, true, false, ◌&&◌, if◌then◌else◌, List}
use Rattle.std.proofs.Common.{[], ◌∷◌, ◌++◌, length, Some, refl, sym, ap, ap₂, subst, ◌∙◌, arith}
use Rattle.std.proofs.Common.{slice_get, nat_le, nat_lt, le-leb, lt-ltb, leb-true, ltb-true}
use Rattle.std.specs.Prelude.{slice_index_or}
use Rattle.std.specs.Str.{bytes_eq}
use Rattle.std.proofs.lemmas.List.{length-append, length-map}
use Rattle.au_meaning.specs.Expressions.{note_of}
use Rattle.au_meaning.specs.Names.{names_in, names_in_block, names_in_tests, names_in_arms}
use Rattle.au_meaning.specs.Names.{field_from}
use Rattle.au_meaning.specs.Views.{Field, Function, View}
use Rattle.au_syntax.specs.Plain.{Bytes}
use Rattle.au_syntax.specs.Statements.{Statement, Statements, Branches, Arms, skip, declare, destructure}
use Rattle.au_syntax.specs.Statements.{assign, assign_through, conditional, conditional_else, case_of}
use Rattle.au_syntax.specs.Statements.{while_loop, for_loop, borrow_in, borrow_typed, discard, return_of}
use Rattle.au_syntax.specs.Statements.{no_statements, statements, no_branches, branches, no_arms, arms}
use Rattle.au_syntax.specs.Types.{Bound}
use Rattle.au_lowered.specs.HomeLists.{parameter_homes, field_home, bind_homes, homes, homes_of_block, homes_of_tests}
use Rattle.au_lowered.specs.HomeLists.{homes_of_arms, function_homes, slot_in, Declares, HomesAreFound}
use Rattle.au_lowered.specs.HomeLists.{kept_by, SameNames, NamesAgree, NamesAgreeInBlock, NamesAgreeInTests}
use Rattle.au_lowered.specs.HomeLists.{NamesAgreeInArms, HomesAreSame}
use Rattle.au_lowered.specs.Homes.{ParametersHomed, BindsHomed, Homed, BlockHomed, TestsHomed, ArmsHomed, FunctionHomed}
use Rattle.au_lowered.specs.Slots.{fields_in, fields_of_case, kept}

-- ---- as many as names

pub parameters_many : (slot : ℕ) (params : List Field) → length (parameter_homes slot params) ≡ length params
parameters_many slot [] = refl
parameters_many slot (p ∷ rest) = let more = parameters_many (slot + 1) rest in omega (arith, more)

binds_many : (fields : List Field) (slot : ℕ) (binds : List (Bound Bytes)) → length (bind_homes fields slot binds)
    ≡ length binds
binds_many fields slot [] = refl
binds_many fields slot (b ∷ rest) = let more = binds_many fields slot rest in omega (arith, more)

module _ {T C : Type 0} (fields : T → List Field) (cases : T → Bytes → List Field) where
  mutual
    homes_many : (slot : ℕ) (s : Statement Bytes T C) → length (homes fields cases slot s) ≡ names_in s
    homes_many slot (skip at) = refl
    homes_many slot (declare at binding name t e) = refl
    homes_many slot (destructure at binds e) = binds_many (fields (note_of e)) slot binds
    homes_many slot (assign at x path e) = refl
    homes_many slot (assign_through at r path e) = refl
    homes_many slot (conditional at tests) = tests_many slot tests
    homes_many slot (conditional_else at tests block) =
        let one = tests_many slot tests in
        let two = block_many slot block in
        omega (arith, length-append (homes_of_tests fields cases slot tests) (homes_of_block fields cases slot block), one, two)
    homes_many slot (case_of at e all) = arms_many slot (note_of e) all
    homes_many slot (while_loop at e block) = block_many slot block
    homes_many slot (for_loop at name first last block) = let one = block_many (slot + 3) block in omega (arith, one)
    homes_many slot (borrow_in at access x r region block stop) =
        let one = block_many (slot + 1) block in omega (arith, one)
    homes_many slot (borrow_typed at r t mode x block stop) =
        let one = block_many (slot + 1) block in omega (arith, one)
    homes_many slot (discard at e) = refl
    homes_many slot (return_of at e) = refl

    pub block_many : (slot : ℕ) (b : Statements Bytes T C) → length (homes_of_block fields cases slot b) ≡ names_in_block b
    block_many slot no_statements = refl
    block_many slot (statements s rest) =
        let one = homes_many slot s in
        let two = block_many (slot + kept_by fields cases s) rest in
        omega (
          arith,
          length-append (homes fields cases slot s) (homes_of_block fields cases (slot + kept_by fields cases s) rest),
          one,
          two,
        )

    tests_many : (slot : ℕ) (tests : Branches Bytes T C) → length (homes_of_tests fields cases slot tests)
        ≡ names_in_tests tests
    tests_many slot no_branches = refl
    tests_many slot (branches e block rest) =
        let one = block_many slot block in
        let two = tests_many slot rest in
        omega (arith, length-append (homes_of_block fields cases slot block) (homes_of_tests fields cases slot rest), one, two)

    arms_many : (slot : ℕ) (note : T) (all : Arms Bytes T C) → length (homes_of_arms fields cases slot note all)
        ≡ names_in_arms all
    arms_many slot note no_arms = refl
    arms_many slot note (arms at name binds block rest) =
        let own = cases note name.name in
        let zero_ = binds_many own slot binds in
        let one = block_many (slot + length own) block in
        let two = arms_many slot note rest in
        omega (
          arith,
          length-append (bind_homes own slot binds) (homes_of_block fields cases (slot + length own) block ++
              homes_of_arms fields cases slot note rest),
          length-append (homes_of_block fields cases (slot + length own) block) (homes_of_arms fields cases slot note rest),
          zero_,
          one,
          two,
        )

-- ---- slots that are those of a list

module _ (slot_of : ℕ → ℕ) where
  -- numbers from one on have these slots
  abbrev Listed : ℕ → List ℕ → Type 0
  Listed number [] = Unit {0}
  Listed number (home ∷ rest) = (slot_of number ≡ home) × Listed (number + 1) rest

  listed_front : (number : ℕ) (xs ys : List ℕ) → Listed number (xs ++ ys) → Listed number xs
  listed_front number [] ys h = tt
  listed_front number (x ∷ xs) ys h = (h.0, listed_front (number + 1) xs ys h.1)

  listed_back : (number : ℕ) (xs ys : List ℕ) → Listed number (xs ++ ys) → Listed (number + length xs) ys
  listed_back number [] ys h =
      let same : number ≡ number + 0 = omega arith in subst (λ n. Listed n ys) same h
  listed_back number (x ∷ xs) ys h =
      let same : number + 1 + length xs ≡ number + length (x ∷ xs) = omega arith in
      subst (λ n. Listed n ys) same (listed_back (number + 1) xs ys h.1)

  listed_then : (number many : ℕ) (xs ys : List ℕ) → length xs ≡ many → Listed number (xs ++ ys)
      → Listed (number + many) ys
  listed_then number many xs ys e h = subst (λ n. Listed (number + n) ys) e (listed_back number xs ys h)

  parameters_homed : (number slot : ℕ) (params : List Field) → Listed number (parameter_homes slot params)
      → ParametersHomed slot_of number slot params
  parameters_homed number slot [] h = tt
  parameters_homed number slot (p ∷ rest) h = (h.0, parameters_homed (number + 1) (slot + 1) rest h.1)

  binds_homed : (fields : List Field) (number slot : ℕ) (binds : List (Bound Bytes))
      → Listed number (bind_homes fields slot binds) → BindsHomed slot_of fields number slot binds
  binds_homed fields number slot [] h = tt
  binds_homed fields number slot (b ∷ rest) h = (
    (λ one e. h.0 ∙ ap (λ o. field_home slot o) e),
    binds_homed fields (number + 1) slot rest h.1,
  )

  module _ {I T C : Type 0} (see : View I T C) where
    -- the fields that a view says
    abbrev records : T → List Field
    records note = fields_in see note

    abbrev cases : T → Bytes → List Field
    cases note name = fields_of_case see note name

    kept_same : (s : Statement Bytes T C) → kept_by records cases s ≡ kept see s
    kept_same (skip at) = refl
    kept_same (declare at binding name t e) = refl
    kept_same (destructure at binds e) = refl
    kept_same (assign at x path e) = refl
    kept_same (assign_through at r path e) = refl
    kept_same (conditional at tests) = refl
    kept_same (conditional_else at tests block) = refl
    kept_same (case_of at e all) = refl
    kept_same (while_loop at e block) = refl
    kept_same (for_loop at name first last block) = refl
    kept_same (borrow_in at access x r region block stop) = refl
    kept_same (borrow_typed at r t mode x block stop) = refl
    kept_same (discard at e) = refl
    kept_same (return_of at e) = refl

    mutual
      homed : (number slot : ℕ) (s : Statement Bytes T C) → Listed number (homes records cases slot s)
          → Homed slot_of see number slot s
      homed number slot (skip at) h = tt
      homed number slot (declare at binding name t e) h = h.0
      homed number slot (destructure at binds e) h = binds_homed (fields_in see (note_of e)) number slot binds h
      homed number slot (assign at x path e) h = tt
      homed number slot (assign_through at r path e) h = tt
      homed number slot (conditional at tests) h = tests_homed number slot tests h
      homed number slot (conditional_else at tests block) h =
          let front = homes_of_tests records cases slot tests in
          let back = homes_of_block records cases slot block in (
            tests_homed number slot tests (listed_front number front back h),
            block_homed (number + names_in_tests tests) slot block (listed_then number (names_in_tests tests) front back
                (tests_many records cases slot tests) h),
          )
      homed number slot (case_of at e all) h = arms_homed number slot (note_of e) all h
      homed number slot (while_loop at e block) h = block_homed number slot block h
      homed number slot (for_loop at name first last block) h = (h.0, block_homed (number + 1) (slot + 3) block h.1)
      homed number slot (borrow_in at access x r region block stop) h =
          (h.0, block_homed (number + 1) (slot + 1) block h.1)
      homed number slot (borrow_typed at r t mode x block stop) h =
          (h.0, block_homed (number + 1) (slot + 1) block h.1)
      homed number slot (discard at e) h = tt
      homed number slot (return_of at e) h = tt

      block_homed : (number slot : ℕ) (b : Statements Bytes T C) → Listed number (homes_of_block records cases slot b)
          → BlockHomed slot_of see number slot b
      block_homed number slot no_statements h = tt
      block_homed number slot (statements s rest) h =
          let front = homes records cases slot s in
          let back = homes_of_block records cases (slot + kept_by records cases s) rest in (
            homed number slot s (listed_front number front back h),
            block_homed (number + names_in s) (slot + kept see s) rest (subst (λ k. Listed (number + names_in s)
                (homes_of_block records cases (slot + k) rest)) (kept_same s) (listed_then number (names_in s) front back
                (homes_many records cases slot s) h)),
          )

      tests_homed : (number slot : ℕ) (tests : Branches Bytes T C)
          → Listed number (homes_of_tests records cases slot tests) → TestsHomed slot_of see number slot tests
      tests_homed number slot no_branches h = tt
      tests_homed number slot (branches e block rest) h =
          let front = homes_of_block records cases slot block in
          let back = homes_of_tests records cases slot rest in (
            block_homed number slot block (listed_front number front back h),
            tests_homed (number + names_in_block block) slot rest (listed_then number (names_in_block block) front back
                (block_many records cases slot block) h),
          )

      arms_homed : (number slot : ℕ) (note : T) (all : Arms Bytes T C)
          → Listed number (homes_of_arms records cases slot note all) → ArmsHomed slot_of see number slot note all
      arms_homed number slot note no_arms h = tt
      arms_homed number slot note (arms at name binds block rest) h =
          let fields = cases note name.name in
          let own = bind_homes fields slot binds in
          let inner = homes_of_block records cases (slot + length fields) block in
          let others = homes_of_arms records cases slot note rest in
          let behind = listed_then number (length binds) own (inner ++ others) (binds_many fields slot binds) h in
          let last = listed_then (number + length binds) (names_in_block block) inner others (block_many records cases
          (slot + length fields) block) behind in
          let same : number + length binds + names_in_block block ≡ number + (length binds + names_in_block block) =
          omega arith in (
            binds_homed fields number slot binds (listed_front number own (inner ++ others) h),
            block_homed (number + length binds) (slot + length fields) block (listed_front (number + length binds)
                inner others behind),
            arms_homed (number + (length binds + names_in_block block)) slot note rest (subst (λ n. Listed n others)
                same last),
          )

  -- a function, where its numbers have its slots
  function_homed : {I T C : Type 0} (f : Function I T C) → Listed f.first (function_homes f)
      → FunctionHomed slot_of f
  function_homed f h =
      let params = parameter_homes 0 f.parameters in
      let rest = homes_of_block (fields_in f.view) (fields_of_case f.view) (length f.parameters) f.body in (
        parameters_homed f.first 0 f.parameters (listed_front f.first params rest h),
        block_homed f.view (f.first + length f.parameters) (length f.parameters) f.body (listed_then f.first (length
            f.parameters) params rest (parameters_many 0 f.parameters) h),
      )

  -- what each number has, is listed
  listed_each : (number : ℕ) (homes : List ℕ)
      → ((i : ℕ) → i < length homes → slot_of (number + i) ≡ slice_index_or homes i 0) → Listed number homes
  listed_each number [] h = tt
  listed_each number (x ∷ xs) h =
      let here : number + 0 ≡ number = omega arith in (
        sym (ap slot_of here) ∙ h 0 (omega arith),
        listed_each (number + 1) xs (λ i less.
            let next : number + 1 + i ≡ number + suc i = omega arith in
            ap slot_of next ∙ h (suc i) (omega (arith, less))),
      )

-- ---- the slot of a number in a program

slot_there : {I T C : Type 0} (functions : List (Function I T C)) (f : Function I T C) (n : ℕ) → Declares f n
    → ((j : ℕ) (g : Function I T C) → slice_get functions j ≡ Some g → Declares g n → (f.first ≡ g.first)
    × (function_homes f ≡ function_homes g))
    → (i : ℕ) → slice_get functions i ≡ Some f
    → slot_in functions n ≡ slice_index_or (function_homes f) (n - f.first) 0
slot_there [] f n d same i e = absurd (grind arith)
slot_there {I} {T} {C} (g ∷ rest) f n d same i e =
    by_test (nat_le g.first n) (nat_lt n (g.first + length (function_homes g))) refl refl i e
    (λ k there. slot_there rest f n d (λ j h at. same (suc j) h at) k there)
  where
    by_test : (a b : Bool) → nat_le g.first n ≡ a → nat_lt n (g.first + length (function_homes g)) ≡ b
        → (i : ℕ) → slice_get (g ∷ rest) i ≡ Some f
        → ((k : ℕ) → slice_get rest k ≡ Some f → slot_in rest n ≡ slice_index_or (function_homes f) (n - f.first) 0)
        → slot_in (g ∷ rest) n ≡ slice_index_or (function_homes f) (n - f.first) 0
    by_test true true x y i e later =
        let its = same 0 g refl (leb-true g.first n x, ltb-true n (g.first + length (function_homes g)) y) in
        ap₂ (λ a b. if a && b then slice_index_or (function_homes g) (n - g.first) 0 else slot_in rest n) x y
        ∙ ap₂ (λ all first. slice_index_or all (n - first) 0) (sym its.1) (sym its.0)
    by_test true false x y zero e later =
        let is : g ≡ f = cc in
        let less : nat_lt n (g.first + length (function_homes g)) ≡ true =
        subst (λ (h : Function I T C). nat_lt n (h.first + length (function_homes h)) ≡ true) (sym is) (lt-ltb n
        (f.first + length (function_homes f)) d.1) in
        absurd (grind arith)
    by_test true false x y (suc k) e later =
        ap₂ (λ a b. if a && b then slice_index_or (function_homes g) (n - g.first) 0 else slot_in rest n) x y
        ∙ later k e
    by_test false b x y zero e later =
        let is : g ≡ f = cc in
        let least : nat_le g.first n ≡ true =
        subst (λ (h : Function I T C). nat_le h.first n ≡ true) (sym is) (le-leb f.first n d.0) in
        absurd (grind arith)
    by_test false b x y (suc k) e later =
        ap (λ a. if a && nat_lt n (g.first + length (function_homes g)) then slice_index_or (function_homes g) (n -
        g.first) 0 else slot_in rest n) x
        ∙ later k e

pub homes_are_found : {I T C : Type 0} → HomesAreFound I T C
homes_are_found functions shared i f e =
    function_homed (slot_in functions) f (listed_each (slot_in functions) f.first (function_homes f) (λ k less.
    let over : f.first + k - f.first ≡ k = omega arith in
    slot_there functions f (f.first + k) (omega arith, omega (arith, less)) (λ j g there d. shared i j (f.first + k) f
    g e there (omega arith, omega (arith, less)) d) i e
    ∙ ap (λ m. slice_index_or (function_homes f) m 0) over))

-- ---- the same slots

field_same : (number slot : ℕ) (name : Bytes) (fields others : List Field) → SameNames fields others
    → field_home slot (field_from number name fields) ≡ field_home slot (field_from number name others)
field_same number slot name [] [] e = refl
field_same number slot name [] (other ∷ others) e = absurd (grind arith)
field_same number slot name (one ∷ fields) [] e = absurd (grind arith)
field_same number slot name (one ∷ fields) (other ∷ others) e =
    let first : one.name ≡ other.name = cc in
    let rest : SameNames fields others = cc in
    by_test (bytes_eq one.name name) refl (ap (λ own. bytes_eq own name) (sym first))
    (field_same (number + 1) slot name fields others rest)
  where
    by_test : (b : Bool) → bytes_eq one.name name ≡ b → bytes_eq other.name name ≡ bytes_eq one.name name
        → field_home slot (field_from (number + 1) name fields) ≡ field_home slot (field_from (number + 1) name others)
        → field_home slot (field_from number name (one ∷ fields)) ≡ field_home slot (field_from number name (other ∷
        others))
    by_test true x y later =
        ap (λ b. field_home slot (if b then Some (number, one.of) else field_from (number + 1) name fields)) x
        ∙ sym (ap (λ b. field_home slot (if b then Some (number, other.of) else field_from (number + 1) name others)) (y
        ∙ x))
    by_test false x y later =
        ap (λ b. field_home slot (if b then Some (number, one.of) else field_from (number + 1) name fields)) x
        ∙ later
        ∙ sym (ap (λ b. field_home slot (if b then Some (number, other.of) else field_from (number + 1) name others)) (y
        ∙ x))

binds_same : (fields others : List Field) (slot : ℕ) (binds : List (Bound Bytes)) → SameNames fields others
    → bind_homes fields slot binds ≡ bind_homes others slot binds
binds_same fields others slot [] e = refl
binds_same fields others slot (b ∷ rest) e =
    ap₂ (λ home homes. home ∷ homes) (field_same 0 slot b.name.name.name fields others e) (binds_same fields others slot
    rest e)

many_same : (fields others : List Field) → SameNames fields others → length fields ≡ length others
many_same fields others e =
    sym (length-map fields (λ (one : Field). one.name)) ∙ ap (λ names. length names) e
    ∙ length-map others (λ (one : Field). one.name)

module _ {T C : Type 0} (fields others : T → List Field) (cases other_cases : T → Bytes → List Field) where
  kept_agree : (s : Statement Bytes T C) → NamesAgree fields others cases other_cases s
      → kept_by fields cases s ≡ kept_by others other_cases s
  kept_agree (skip at) a = refl
  kept_agree (declare at binding name t e) a = refl
  kept_agree (destructure at binds e) a = many_same (fields (note_of e)) (others (note_of e)) a
  kept_agree (assign at x path e) a = refl
  kept_agree (assign_through at r path e) a = refl
  kept_agree (conditional at tests) a = refl
  kept_agree (conditional_else at tests block) a = refl
  kept_agree (case_of at e all) a = refl
  kept_agree (while_loop at e block) a = refl
  kept_agree (for_loop at name first last block) a = refl
  kept_agree (borrow_in at access x r region block stop) a = refl
  kept_agree (borrow_typed at r t mode x block stop) a = refl
  kept_agree (discard at e) a = refl
  kept_agree (return_of at e) a = refl

  mutual
    homes_same : (slot : ℕ) (s : Statement Bytes T C) → NamesAgree fields others cases other_cases s
        → homes fields cases slot s ≡ homes others other_cases slot s
    homes_same slot (skip at) a = refl
    homes_same slot (declare at binding name t e) a = refl
    homes_same slot (destructure at binds e) a = binds_same (fields (note_of e)) (others (note_of e)) slot binds a
    homes_same slot (assign at x path e) a = refl
    homes_same slot (assign_through at r path e) a = refl
    homes_same slot (conditional at tests) a = tests_same slot tests a
    homes_same slot (conditional_else at tests block) a =
        ap₂ (λ xs ys. xs ++ ys) (tests_same slot tests a.0) (block_same slot block a.1)
    homes_same slot (case_of at e all) a = arms_same slot (note_of e) all a
    homes_same slot (while_loop at e block) a = block_same slot block a
    homes_same slot (for_loop at name first last block) a = ap (λ xs. (slot + 2) ∷ xs) (block_same (slot + 3) block a)
    homes_same slot (borrow_in at access x r region block stop) a = ap (λ xs. slot ∷ xs) (block_same (slot + 1) block a)
    homes_same slot (borrow_typed at r t mode x block stop) a = ap (λ xs. slot ∷ xs) (block_same (slot + 1) block a)
    homes_same slot (discard at e) a = refl
    homes_same slot (return_of at e) a = refl

    block_same : (slot : ℕ) (b : Statements Bytes T C) → NamesAgreeInBlock fields others cases other_cases b
        → homes_of_block fields cases slot b ≡ homes_of_block others other_cases slot b
    block_same slot no_statements a = refl
    block_same slot (statements s rest) a =
        ap₂ (λ xs ys. xs ++ ys) (homes_same slot s a.0)
        (ap (λ k. homes_of_block fields cases (slot + k) rest) (kept_agree s a.0)
        ∙ block_same (slot + kept_by others other_cases s) rest a.1)

    tests_same : (slot : ℕ) (tests : Branches Bytes T C) → NamesAgreeInTests fields others cases other_cases tests
        → homes_of_tests fields cases slot tests ≡ homes_of_tests others other_cases slot tests
    tests_same slot no_branches a = refl
    tests_same slot (branches e block rest) a =
        ap₂ (λ xs ys. xs ++ ys) (block_same slot block a.0) (tests_same slot rest a.1)

    arms_same : (slot : ℕ) (note : T) (all : Arms Bytes T C) → NamesAgreeInArms fields others cases other_cases note all
        → homes_of_arms fields cases slot note all ≡ homes_of_arms others other_cases slot note all
    arms_same slot note no_arms a = refl
    arms_same slot note (arms at name binds block rest) a =
        let one = cases note name.name in
        let other = other_cases note name.name in
        ap₂ (λ xs ys. xs ++ ys) (binds_same one other slot binds a.0)
        (ap₂ (λ xs ys. xs ++ ys)
        (ap (λ k. homes_of_block fields cases (slot + k) block) (many_same one other a.0)
        ∙ block_same (slot + length other) block a.1) (arms_same slot note rest a.2))

pub homes_are_same : {T C : Type 0} → HomesAreSame T C
homes_are_same fields others cases other_cases slot block a = block_same fields others cases other_cases slot block a
