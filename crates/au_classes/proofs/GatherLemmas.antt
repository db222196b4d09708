-- The instances of a program, one after another.
use Rattle.std.proofs.Common.{◌≡◌, ℕ, ◌+◌, ◌<◌, ◌≤◌, ◌⊎◌, inl, inr, suc, List, [], ◌∷◌, ◌++◌, length, map}
use Rattle.std.proofs.Common.{drop, get_or, Option, None, Some, refl, sym, ap, ◌∙◌, append_assoc, add-one}
use Rattle.std.proofs.Common.{drop-cons, arith}
use Rattle.std.specs.Prelude.{slice_get}
use Rattle.std.proofs.lemmas.List.{append-nil, drop_all, map-append}
use Rattle.std.proofs.lemmas.Option.{slice_get_within, get_or_from_slice_get, slice_get_cases}
use Rattle.au_base.proofs.ListLemmas.{seen_left}
use Rattle.au_syntax.specs.declared.modules.Part.TheVariants.{Interface, Body}
use Rattle.au_syntax.specs.Plain.{Bytes, PlainDeclaration}
use Rattle.au_types.specs.declared.headings.Head.{Head}
use Rattle.au_types.specs.declared.types.DeclAt.{DeclAt}
use Rattle.au_modules.specs.Programs.{ModuleParts}
use Rattle.au_modules.specs.Seen.{interface_tree, body_tree}
use Rattle.au_names.specs.Exporting.{declarations_seen as declarations_of}
use Rattle.au_names.specs.HeadsOf.{heads_of}
use Rattle.au_promises.specs.Agreeing.{sight_of, visible}
use Rattle.au_classes.specs.declared.instance_texts.InstanceText as code
use Rattle.au_classes.specs.Indices.{is_among}
use Rattle.au_classes.specs.Texts.{InstanceText, declared_at, defined, defined_from, definition_at}
use Rattle.au_classes.specs.Texts.{instances_from, instances_in, methods_at, module_instances, promised}
use Rattle.au_classes.specs.Texts.{promised_from, put_before, unless_promised}
use Rattle.au_classes.specs.InstanceViews.{text_said, texts_said}

-- one more instance is pushed
pub pushed : (before after : List code.InstanceText) (one : code.InstanceText) → after ≡ before ++ one ∷ []
    → texts_said after ≡ texts_said before ++ text_said one ∷ []
pushed before after one is = ap texts_said is ∙ map-append text_said before (one ∷ [])

-- what stands behind an instance, if there is one
put_behind : (one : Option InstanceText) (others : List InstanceText) → put_before one []
    ++ others ≡ put_before one others
put_behind None others = refl
put_behind (Some text) others = refl

-- one step of a walk that puts instances behind others
step : (start before after rest left whole : List InstanceText) (one : Option InstanceText) → before
    ++ rest ≡ start ++ whole → rest ≡ put_before one left → after ≡ before ++ put_before one []
    → after ++ left ≡ start ++ whole
step start before after rest left whole one so_far next new =
    ap (λ xs. xs ++ left) new
    ∙ append_assoc before (put_before one []) left
    ∙ ap (λ xs. before ++ xs) (put_behind one left ∙ sym next)
    ∙ so_far

-- the end of such a walk
finish : (start before rest whole : List InstanceText) → before ++ rest ≡ start ++ whole → rest ≡ [] →
    before ≡ start ++ whole
finish start before rest whole so_far none = sym (append-nil before) ∙ ap (λ xs. before ++ xs) (sym none) ∙ so_far

module _ {A B : Type 0} (p : B → PlainDeclaration) (v : A → B) where
  module _ (body : List PlainDeclaration) (definitions : List (Option ℕ)) (place : ℕ) where
    promised_cons : (number : ℕ) (d : PlainDeclaration) (ds : List PlainDeclaration)
        → promised_from body definitions place number (d ∷ ds)
        ≡ put_before (promised (declared_at place number)
        (methods_at body (definition_at definitions number)) d)
        (promised_from body definitions place (number + 1) ds)
    unfolding promised_from
    promised_cons number d ds = refl

    promised_nil : (number : ℕ) → promised_from body definitions place number [] ≡ []
    unfolding promised_from
    promised_nil number = refl

    -- the next declaration of the interface
    pub promised_next : (start before after : List InstanceText) (xs : List A) (i : ℕ) (x : A)
        (one : Option InstanceText) → i < length xs → x ≡ get_or xs i x
        → before ++ promised_from body definitions place i (map p (map v (drop i xs))) ≡ start
        ++ promised_from body definitions place 0 (map p (map v xs))
        → one ≡ promised (declared_at place i) (methods_at body (definition_at definitions i)) (p (v x)) →
        after ≡ before ++ put_before one []
        → after ++ promised_from body definitions place (i + 1) (map p (map v (drop (i + 1) xs))) ≡ start
        ++ promised_from body definitions place 0 (map p (map v xs))
    promised_next start before after xs i x one h here so_far is new =
        step start before after (promised_from body definitions place i (map p (map v (drop i xs))))
        (promised_from body definitions place (i + 1) (map p (map v (drop (i + 1) xs))))
        (promised_from body definitions place 0 (map p (map v xs))) one so_far
        (ap (promised_from body definitions place i) (seen_left p v xs i x h here)
        ∙ promised_cons i (p (v x)) (map p (map v (drop (i + 1) xs)))
        ∙ ap (λ o. put_before o (promised_from body definitions place (i + 1)
        (map p (map v (drop (i + 1) xs))))) (sym is))
        new

    -- no declaration is left
    pub promised_end : (start before : List InstanceText) (xs : List A) (i : ℕ) → length xs ≤ i
        → before ++ promised_from body definitions place i (map p (map v (drop i xs))) ≡ start
        ++ promised_from body definitions place 0 (map p (map v xs))
        → before ≡ start ++ promised_from body definitions place 0 (map p (map v xs))
    promised_end start before xs i past so_far =
        finish start before (promised_from body definitions place i (map p (map v (drop i xs))))
        (promised_from body definitions place 0 (map p (map v xs))) so_far
        (ap (λ r. promised_from body definitions place i (map p (map v r))) (drop_all i xs past) ∙ promised_nil i)

  module _ (definitions : List (Option ℕ)) (place many : ℕ) where
    defined_cons : (index : ℕ) (d : PlainDeclaration) (ds : List PlainDeclaration)
        → defined_from definitions place many index (d ∷ ds)
        ≡ put_before (unless_promised (is_among index definitions)
        (defined (declared_at place (many + index)) d)) (defined_from definitions place many (index + 1) ds)
    unfolding defined_from
    defined_cons index d ds = refl

    defined_nil : (index : ℕ) → defined_from definitions place many index [] ≡ []
    unfolding defined_from
    defined_nil index = refl

    -- the next declaration of the body
    pub defined_next : (start before after : List InstanceText) (xs : List A) (i : ℕ) (x : A)
        (one : Option InstanceText) → i < length xs → x ≡ get_or xs i x
        → before ++ defined_from definitions place many i (map p (map v (drop i xs))) ≡ start
        ++ defined_from definitions place many 0 (map p (map v xs))
        → one ≡ unless_promised (is_among i definitions) (defined (declared_at place (many + i)) (p (v x))) →
        after ≡ before ++ put_before one []
        → after ++ defined_from definitions place many (i + 1) (map p (map v (drop (i + 1) xs))) ≡ start
        ++ defined_from definitions place many 0 (map p (map v xs))
    defined_next start before after xs i x one h here so_far is new =
        step start before after (defined_from definitions place many i (map p (map v (drop i xs))))
        (defined_from definitions place many (i + 1) (map p (map v (drop (i + 1) xs))))
        (defined_from definitions place many 0 (map p (map v xs))) one so_far
        (ap (defined_from definitions place many i) (seen_left p v xs i x h here)
        ∙ defined_cons i (p (v x)) (map p (map v (drop (i + 1) xs)))
        ∙ ap (λ o. put_before o (defined_from definitions place many (i + 1)
        (map p (map v (drop (i + 1) xs))))) (sym is))
        new

    -- no declaration is left
    pub defined_end : (start before : List InstanceText) (xs : List A) (i : ℕ) → length xs ≤ i
        → before ++ defined_from definitions place many i (map p (map v (drop i xs))) ≡ start
        ++ defined_from definitions place many 0 (map p (map v xs))
        → before ≡ start ++ defined_from definitions place many 0 (map p (map v xs))
    defined_end start before xs i past so_far =
        finish start before (defined_from definitions place many i (map p (map v (drop i xs))))
        (defined_from definitions place many 0 (map p (map v xs))) so_far
        (ap (λ r. defined_from definitions place many i (map p (map v r))) (drop_all i xs past) ∙ defined_nil i)

-- ---- modules

module _ (program : List ModuleParts) where
  instances_cons : (place : ℕ) (m : ModuleParts) (ms : List ModuleParts) →
      instances_from program place (m ∷ ms) ≡ module_instances program place m
      ++ instances_from program (place + 1) ms
  unfolding instances_from
  instances_cons place m ms = refl

  instances_nil : (place : ℕ) → instances_from program place [] ≡ []
  unfolding instances_from
  instances_nil place = refl

  instances_at : (place : ℕ) (m : ModuleParts) → slice_get program place ≡ Some m
      → instances_from program place (drop place program) ≡ module_instances program place m
      ++ instances_from program (place + 1) (drop (place + 1) program)
  instances_at place m here =
      ap (instances_from program place)
      (drop-cons program place m (slice_get_within program place m here)
      ∙ ap (λ x. x ∷ drop (suc place) program) (get_or_from_slice_get program place m m here)
      ∙ ap (λ n. m ∷ drop n program) (sym (add-one place)))
      ∙ instances_cons place m (drop (place + 1) program)

  -- the next module
  pub modules_next : (place : ℕ) (before after : List InstanceText) → place < length program
      → before ++ instances_from program place (drop place program) ≡ instances_from program 0 program
      → ((m : ModuleParts) → slice_get program place ≡ Some m → after ≡ before ++ module_instances program place m)
      → after ++ instances_from program (place + 1) (drop (place + 1) program) ≡ instances_from program 0 program
  modules_next place before after within so_far is = by (slice_get_cases program place).1
    where
      by : ((m : ModuleParts) × (place < length program) × (slice_get program place ≡ Some m)
          × (get_or program place m ≡ m)) ⊎ ((length program ≤ place) × (slice_get program place ≡ None))
          → after ++ instances_from program (place + 1) (drop (place + 1) program) ≡ instances_from program 0 program
      by (inl found) =
          let rest = instances_from program (place + 1) (drop (place + 1) program) in
          ap (λ xs. xs ++ rest) (is found.0 found.2)
          ∙ append_assoc before (module_instances program place found.0) rest
          ∙ ap (λ xs. before ++ xs) (sym (instances_at place found.0 found.2))
          ∙ so_far
      by (inr past) = absurd (omega (arith, past.0, within))

  -- no module is left
  pub modules_end : (place : ℕ) (before : List InstanceText) → length program ≤ place
      → before ++ instances_from program place (drop place program) ≡ instances_from program 0 program →
      before ≡ instances_from program 0 program
  modules_end place before past so_far =
      sym (append-nil before)
      ∙ ap (λ xs. before ++ xs) (sym (ap (instances_from program place) (drop_all place program past)
      ∙ instances_nil place))
      ∙ so_far

-- what the code sees of the module at a place
pub parts_are : (program : List ModuleParts) (place : ℕ) (m : ModuleParts)
    (interface body : List (Bytes × DeclAt)) (rows : List (DeclAt × Head)) (p : ℕ)
    (ds es : List PlainDeclaration)
    → interface ≡ visible program place m Interface → body ≡ visible program place m Body →
    rows ≡ heads_of program → p ≡ place
    → ds ≡ declarations_of (interface_tree (Some m)) → es ≡ declarations_of (body_tree (Some m))
    → instances_in (record { interface = interface; body = body; rows = rows }) p ds es ≡ module_instances
    program place m
parts_are program place m interface body rows p ds es first second third at one other =
    ap (λ names. instances_in (record { interface = names; body = body; rows = rows }) p ds es) first
    ∙ ap (λ names. instances_in (record {
      interface = visible program place m Interface;
      body = names;
      rows =
          rows;
    }) p ds es) second
    ∙ ap (λ hs. instances_in (record {
      interface = visible program place m Interface;
      body =
          visible program place m Body;
      rows = hs;
    }) p ds es) third
    ∙ ap (λ k. instances_in (sight_of program place m) k ds es) at
    ∙ ap (λ xs. instances_in (sight_of program place m) place xs es) one
    ∙ ap (λ ys. instances_in (sight_of program place m) place (declarations_of (interface_tree (Some m))) ys) other
