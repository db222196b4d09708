-- Which declaration is found.
use Rattle.std.proofs.Common.{◌≡◌, ℕ, zero, suc, ◌+◌, ◌-◌, ◌<◌, ◌≤◌, List, [], ◌∷◌, ◌++◌, length, map}
use Rattle.std.proofs.Common.{get_or, Option, None, Some, refl, sym, ap, ◌∙◌, arith, zero-add}
use Rattle.std.specs.Prelude.{slice_get}
use Rattle.std.specs.Option.{option_map}
use Rattle.std.proofs.lemmas.Option.{slice_get-map, slice_get_past, slice_get_read}
use Rattle.au_base.proofs.ListLemmas.{get_left}
use Rattle.au_syntax.specs.contracts.parsed.ParsedPhase.TheImpl.{ghosts as parsed}
use Rattle.au_syntax.specs.declared.declarations.Decl.{Decl}
use Rattle.au_syntax.specs.declared.modules.Part.{Part}
use Rattle.au_syntax.specs.declared.modules.Part.TheVariants.{Interface, Body}
use Rattle.au_syntax.specs.declared.parsed.Parsed.{Parsed}
use Rattle.au_syntax.specs.Plain.{PlainDeclaration, PlainModule, plain_declaration}
use Rattle.au_syntax.specs.Views.{declaration}
use Rattle.au_modules.specs.Programs.{ModuleParts}
use Rattle.au_modules.specs.Seen.{body_tree, interface_tree}
use Rattle.au_names.specs.Walks.{written, written_all}
use Rattle.au_names.specs.Exporting.{declarations_seen}
use Rattle.au_names.specs.Owned.{declarations_in}
use Rattle.au_names.proofs.ExportLemmas.{body_seen, interface_seen}
use Rattle.au_names.specs.Standing.{Standing, body_at, body_standing, standing_from, standing_in}

-- a declaration of the code
abbrev pub Written : Type 0
Written = Decl Parsed (List ℕ) (Unit {0}) (Unit {0})

-- ---- lists behind others

got_behind : {X : Type 0} (xs ys : List X) (k : ℕ) → length xs ≤ k
    → slice_get ys (k - length xs) ≡ slice_get (xs ++ ys) k
got_behind [] ys k h = let same : k - 0 ≡ k = omega arith in ap (slice_get ys) same
got_behind (x ∷ xs) ys zero h = absurd (omega arith)
got_behind (x ∷ xs) ys (suc k) h =
    let same : suc k - suc (length xs) ≡ k - length xs = omega arith in
    ap (slice_get ys) same ∙ got_behind xs ys k (omega arith)

-- ---- the declarations of a part

module _ (place : ℕ) (part : Part) where
  abbrev pub stands : ℕ → PlainDeclaration → Standing
  stands index d = record { place = place; part = part; index = index; says = d }

  from_got : (first : ℕ) (ds : List PlainDeclaration) (i : ℕ)
      → slice_get (standing_from place part first ds) i ≡ option_map (stands (first + i)) (slice_get ds i)
  unfolding standing_from
  from_got first [] i = refl
  from_got first (d ∷ ds) zero =
      let same : first ≡ first + 0 = omega arith in ap (λ n. Some (stands n d)) same
  from_got first (d ∷ ds) (suc i) =
      let same : first + 1 + i ≡ first + suc i = omega arith in
      from_got (first + 1) ds i ∙ ap (λ n. option_map (stands n) (slice_get ds i)) same

  pub from_length : (first : ℕ) (ds : List PlainDeclaration)
      → length (standing_from place part first ds) ≡ length ds
  unfolding standing_from
  from_length first [] = refl
  from_length first (d ∷ ds) = ap suc (from_length (first + 1) ds)

  -- what is found at an index of the declarations of the code
  read_from : (xs : List Written) (i : ℕ)
      → slice_get (standing_from place part 0 (written_all xs)) i
      ≡ option_map (λ x. stands i (written x)) (slice_get xs i)
  read_from xs i =
      from_got 0 (written_all xs) i
      ∙ ap (λ n. option_map (stands n) (slice_get (written_all xs) i)) (zero-add i)
      ∙ ap (option_map (stands i))
      (slice_get-map (plain_declaration parsed.name_bytes) (map (declaration parsed) xs) i
      ∙ ap (option_map (plain_declaration parsed.name_bytes)) (slice_get-map (declaration parsed) xs i))
      ∙ both (slice_get xs i)
    where
      both : (o : Option Written)
          → option_map (stands i)
          (option_map (plain_declaration parsed.name_bytes) (option_map (declaration parsed) o))
          ≡ option_map (λ x. stands i (written x)) o
      both None = refl
      both (Some x) = refl

  pub found_there : (xs : List Written) (i : ℕ) (x : Written) → i < length xs → x ≡ get_or xs i x
      → Some (stands i (written x)) ≡ slice_get (standing_from place part 0 (written_all xs)) i
  found_there xs i x within is =
      sym
      (read_from xs i
      ∙ ap (option_map (λ y. stands i (written y))) (slice_get_read xs (length xs) i x refl within is))

  pub found_past : (xs : List Written) (i : ℕ) → length xs ≤ i
      → None ≡ slice_get (standing_from place part 0 (written_all xs)) i
  found_past xs i past =
      sym (read_from xs i ∙ ap (option_map (λ y. stands i (written y))) (slice_get_past xs i past))

-- ---- the declarations of a module

no_count : (seen : Option PlainModule) → seen ≡ None → length (declarations_seen seen) ≡ 0
no_count seen is = ap (λ s. length (declarations_seen s)) is

-- one of the interface
pub interface_found : (place number : ℕ) (found : Option ModuleParts) (seen : Option PlainModule)
    → seen ≡ interface_tree found → number < length (declarations_seen seen)
    → slice_get (standing_from place Interface 0 (declarations_seen seen)) number
    ≡ standing_in place number found
interface_found place number None seen is less = let none = no_count seen is in absurd (omega arith)
interface_found place number (Some m) seen is less =
    let same : declarations_seen seen ≡ declarations_in m.interface =
    ap declarations_seen is ∙ sym (interface_seen m) in
    let count : length (standing_from place Interface 0 (declarations_in m.interface))
    ≡ length (declarations_seen seen) =
    from_length place Interface 0 (declarations_in m.interface) ∙ ap length (sym same) in
    ap (λ ds. slice_get (standing_from place Interface 0 ds) number) same
    ∙ sym
    (get_left (standing_from place Interface 0 (declarations_in m.interface)) (body_standing place m)
    number (omega arith))

-- the declarations of the body
pub body_list : (place : ℕ) (found : Option ModuleParts) (body : Option PlainModule) → body ≡ body_tree found
    → standing_from place Body 0 (declarations_seen body) ≡ body_at place found
unfolding standing_from
body_list place None body is = ap (λ b. standing_from place Body 0 (declarations_seen b)) is
body_list place (Some m) body is =
    ap (standing_from place Body 0) (ap declarations_seen is ∙ sym (body_seen m))

-- one of the body
pub body_found : (place number : ℕ) (found : Option ModuleParts) (seen body : Option PlainModule)
    → seen ≡ interface_tree found → body ≡ body_tree found → length (declarations_seen seen) ≤ number
    → slice_get (standing_from place Body 0 (declarations_seen body))
    (number - length (declarations_seen seen))
    ≡ standing_in place number found
body_found place number None seen body none is past =
    ap (λ l. slice_get l (number - length (declarations_seen seen))) (body_list place None body is)
body_found place number (Some m) seen body interface is past =
    let same : declarations_seen seen ≡ declarations_in m.interface =
    ap declarations_seen interface ∙ sym (interface_seen m) in
    let count : length (standing_from place Interface 0 (declarations_in m.interface))
    ≡ length (declarations_seen seen) =
    from_length place Interface 0 (declarations_in m.interface) ∙ ap length (sym same) in
    ap (λ l. slice_get l (number - length (declarations_seen seen))) (body_list place (Some m) body is)
    ∙ ap (λ n. slice_get (body_standing place m) (number - n)) (sym count)
    ∙ got_behind (standing_from place Interface 0 (declarations_in m.interface)) (body_standing place m)
    number (omega arith)
