-- A checked program begins with the four shipped modules, and no other module has the name of one of these.
use Rattle.std.proofs.Common.{◌≡◌, inl, inr, Bool, false, cond, subst, List, [], ◌∷◌, ◌++◌, map, refl, ap, ◌∙◌}
use Rattle.std.specs.Prelude.{ℕ, filter}
use Rattle.au_shipped.specs.Building.{place}
use Rattle.au_shipped.specs.PervasiveInterface.{pervasive}
use Rattle.au_shipped.specs.BoxInterface.{boxes}
use Rattle.au_shipped.specs.BufferInterface.{buffers}
use Rattle.au_shipped.specs.TerminalInterface.{terminal}
use Rattle.au_syntax.specs.Plain.{PlainModule}
use Rattle.au_modules.specs.Programs.{Entry, ModuleParts, is_shipped, is_user_body, module_of, shipped_module}
use Rattle.au_names.proofs.AmongLemmas.{Among}
use Rattle.au_judged_bodies.specs.Trees.{NotedParts}
use Rattle.au_closing_laws.proofs.GatheredLemmas.{among_filter, among_map, own_isnt}
use Rattle.au_judged_programs.specs.CheckedChecked.{IsChecked}
use Rattle.au_judged_programs.proofs.BirthLemmas.{IsOfShipped, own_named, shipped}

-- ---- the shipped modules

abbrev shipped_of : ℕ → PlainModule → ModuleParts
shipped_of file tree = shipped_module (record { file = file; tree = tree })

abbrev pub own_module : ModuleParts
own_module = shipped_of 65532 (pervasive (place 65532))

abbrev pub box_module : ModuleParts
box_module = shipped_of 65533 (boxes (place 65533))

abbrev pub buffer_module : ModuleParts
buffer_module = shipped_of 65534 (buffers (place 65534))

abbrev pub terminal_module : ModuleParts
terminal_module = shipped_of 65535 (terminal (place 65535))

-- these in order
abbrev pub front : List ModuleParts
front = own_module ∷ box_module ∷ buffer_module ∷ terminal_module ∷ []

-- a program begins with them
pub record HasFront (program : List ModuleParts) : Type 0 where
  pub rest : List ModuleParts
  pub whole : program ≡ front ++ rest
  pub others : (m : ModuleParts) → Among m rest → IsOfShipped m.name → ⊥

none_pass : {A : Type 0} (t : A → Bool) (xs : List A) → ((x : A) → Among x xs → t x ≡ false) → filter t xs ≡ []
none_pass t [] none = refl
none_pass t (x ∷ xs) none =
    ap (λ b. cond b (x ∷ filter t xs) (filter t xs)) (none x (inl refl)) ∙ none_pass t xs (λ y m. none y (inr m))

module _ (program : List ModuleParts) (noted : List NotedParts) (checked : IsChecked program noted) where
  abbrev own : List Entry
  own = checked.gathered.own

  abbrev its_rest : List ModuleParts
  its_rest = map (module_of (shipped ++ own)) (filter is_user_body own)

  pub has_front : HasFront program
  has_front = record {
    rest = its_rest;
    whole = checked.gathered.gathered
        ∙ ap (λ (es : List Entry). front ++ (map shipped_module es ++ its_rest))
        (none_pass is_shipped own (own_isnt program checked.gathered));
    others = λ m among name.
        let its = among_map (module_of (shipped ++ own)) m (filter is_user_body own) among in
        own_named program noted checked its.0 (among_filter is_user_body its.0 own its.1).0
        (subst IsOfShipped (ap (λ (x : ModuleParts). x.name) its.2) name);
  }
