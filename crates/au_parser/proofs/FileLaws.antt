-- The laws of the parser, from the two laws of the reader of files.
use Rattle.std.proofs.Common.{◌≡◌, ℕ, true, List, [], ◌⊎◌, inl, inr, Ok, Err, sym, ap, ◌∙◌, subst}
use Rattle.au_base.specs.declared.limits.Limit.{Limit}
use Rattle.au_base.specs.declared.tokens.Token.{Token}
use Rattle.au_syntax.specs.contracts.parsed.ParsedPhase.TheImpl.{ghosts as parsed}
use Rattle.au_syntax.specs.Files.{says, is_formed, is_within}
use Rattle.au_syntax.specs.Forms.{formed_module}
use Rattle.au_syntax.specs.Plain.{PlainModule}
use Rattle.au_syntax.specs.Sizes.{fits}
use Rattle.au_syntax.specs.Views.{module_tree}
use Rattle.au_syntax.specs.Words.{words, AreWords, Spells}
use Rattle.au_read_expressions.specs.Bounds.{Bounds, usual, ModulePasses}
use Rattle.au_read_expressions.specs.Reading.{Read, Stops}
use Rattle.au_read_expressions.specs.declared.faults.Fault.{Fault}
use Rattle.au_read_expressions.specs.declared.faults.Fault.TheVariants.{Syntax, Passed}
use Rattle.au_read_expressions.specs.declared.faults.Stop.{Stop}
use Rattle.au_read_expressions.specs.declared.faults.Stop.TheVariants as stop
use Rattle.au_parser.specs.ModuleReading.{file_at}
use Rattle.au_parser.proofs.FileForm.{ModuleFits}
use Rattle.au_parser.proofs.Keeping.{none_passed, keeps_fits, fits_keeps, bounds_of, first_keeps, second_keeps}
use Rattle.au_parser.proofs.PlainTrees.{ParsedModule, says_itself}

-- what reading gives, with its type
abbrev gives : PlainModule × List Token → Read PlainModule
gives x = Ok x

abbrev faults : Fault → Read PlainModule
faults f = Err f

same_tree : (m u : PlainModule) → gives (m, []) ≡ gives (u, []) → m ≡ u
same_tree m u e =
    let pairs : ◌≡◌ {A = PlainModule × List Token} (m, []) (u, []) = cc in
    ap (λ (x : PlainModule × List Token). x.0) pairs

not_both : (m : PlainModule) (f : Fault) → gives (m, []) ≡ faults f → ⊥
not_both m f e = cc

other_fault : (l : Limit) (left n : ℕ) → faults (Passed l left) ≡ faults (Syntax n) → ⊥
other_fault l left n e = cc

same_limit : (l k : Limit) (left n : ℕ) → faults (Passed l left) ≡ faults (Passed k n) → l ≡ k
same_limit l k left n e = cc

-- why reading stopped
pub stopped : (s : Stop) (f g : Fault) (read : Read PlainModule) → Stops s read → s ≡ stop.Fault f → f ≡ g →
    read ≡ Err g
stopped s f g read h is same = subst (λ (e : Stop). Stops e read) (is ∙ ap stop.Fault same) h

module _
    (file_sound : (b : Bounds) (ts rest : List Token) (m : PlainModule) → file_at b ts ≡ Ok (m, rest) →
    (rest ≡ []) × AreWords (words m) ts × (formed_module m ≡ true) × ModuleFits b m)
    (file_found : (b : Bounds) (ts : List Token) (m : PlainModule) → AreWords (words m) ts → formed_module m ≡ true
    → (file_at b ts ≡ Ok (m, [])) ⊎ ((l : Limit) × (left : ℕ) × (file_at b ts ≡ Err (Passed l left))
    × ModulePasses b m l))
  where
    -- a tree that keeps the bounds is read
    found_within : (b : Bounds) (ts : List Token) (m : PlainModule) → AreWords (words m) ts →
        formed_module m ≡ true → ModuleFits b m → file_at b ts ≡ Ok (m, [])
    found_within b ts m spelled good keeps =
        elim (file_found b ts m spelled good) [
          | inl e ↦ e
          | inr p ↦ absurd (none_passed b m p.0 keeps p.3)
        ]

    pub one_tree : (m u : PlainModule) → formed_module m ≡ true → formed_module u ≡ true → (ts : List Token) →
        Spells m ts → Spells u ts → m ≡ u
    one_tree m u good fine ts first second =
        same_tree m u
        (sym (found_within (bounds_of m u) ts m first good (first_keeps m u))
        ∙ found_within (bounds_of m u) ts u second fine (second_keeps m u))

    -- ---- a file is read

    module _ (ts : List Token) (tree : ParsedModule) (read : file_at usual ts ≡ Ok (module_tree parsed tree, [])) where
      pub tree_spelled : Spells (says parsed tree) ts
      tree_spelled = subst (λ m. Spells m ts) (sym (says_itself tree))
          (file_sound usual ts [] (module_tree parsed tree) read).1

      pub tree_formed : is_formed parsed tree ≡ true
      tree_formed = ap formed_module (says_itself tree) ∙ (file_sound usual ts [] (module_tree parsed tree) read).2

      pub tree_within : is_within parsed tree ≡ true
      tree_within = ap fits (says_itself tree) ∙ keeps_fits (module_tree parsed tree)
          (file_sound usual ts [] (module_tree parsed tree) read).3

      pub tree_only : (m : PlainModule) → formed_module m ≡ true → Spells m ts → fits m ≡ true → says parsed tree ≡ m
      tree_only m good spelled small =
          says_itself tree
          ∙ same_tree (module_tree parsed tree) m (sym read ∙ found_within usual ts m spelled good (fits_keeps m small))

    -- ---- a file is not read

    -- nothing is spelled so where a token doesn't fit
    pub none_spelled : (ts : List Token) (left : ℕ) → file_at usual ts ≡ Err (Syntax left) →
        (m : PlainModule) → formed_module m ≡ true → Spells m ts → ⊥
    none_spelled ts left stops m good spelled =
        elim (file_found usual ts m spelled good) [
          | inl e ↦ not_both m (Syntax left) (sym e ∙ stops)
          | inr p ↦ other_fault p.0 p.1 left (sym p.2 ∙ stops)
        ]

    -- what is spelled so passes the limit that is told
    pub limit_passed : (ts : List Token) (l : Limit) (left : ℕ) → file_at usual ts ≡ Err (Passed l left) →
        (m : PlainModule) → formed_module m ≡ true → Spells m ts → ModulePasses usual m l
    limit_passed ts l left stops m good spelled =
        elim (file_found usual ts m spelled good) [
          | inl e ↦ absurd (not_both m (Passed l left) (sym e ∙ stops))
          | inr p ↦ subst (ModulePasses usual m) (same_limit p.0 l p.1 left (sym p.2 ∙ stops)) p.3
        ]

    -- nothing within the limits is spelled so where reading stops
    pub none_within : (ts : List Token) (f : Fault) → file_at usual ts ≡ Err f → (m : PlainModule) →
        formed_module m ≡ true → Spells m ts → fits m ≡ true → ⊥
    none_within ts f stops m good spelled small =
        not_both m f (sym (found_within usual ts m spelled good (fits_keeps m small)) ∙ stops)
