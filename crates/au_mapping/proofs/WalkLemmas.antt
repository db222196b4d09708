-- Steps of the walks over trees: loops over parts.
use Rattle.std.proofs.Common.{◌≡◌, ℕ, ◌+◌, ◌<◌, ◌≤◌, List, [], ◌∷◌, ◌++◌, length, take, get_or}
use Rattle.std.proofs.Common.{ap, ◌∙◌, sym}
use Rattle.std.proofs.lemmas.List.{take_all, take_more}
use Rattle.au_syntax.specs.declared.phases.Phase as phase
use Rattle.au_syntax.specs.declared.expressions.Argument.{Argument}
use Rattle.au_syntax.specs.Expressions.{Arguments, no_arguments, arguments}
use Rattle.au_syntax.specs.Views.{placed, expression}
use Rattle.au_mapping.specs.declared.walks.Walk.{Ghosts}
use Rattle.au_mapping.specs.Seen.{before, after}

-- a loop over all items has walked them all
pub all_walked :
    {A B K : Type 0} (new : List B → K) (old : List A → K) (made : List B) (xs ys : List A) (i : ℕ) →
    new made ≡ old (take i xs) → xs ≡ ys → length xs ≤ i → new made ≡ old ys
all_walked new old made xs ys i so_far same ends = so_far ∙ ap old (take_all i xs ends ∙ same)

-- one more item is walked, where one more item stands behind what is seen of the others
pub walked_more : {A B K D : Type 0} (new : List B → K) (old : List A → K) (snoc : K → D → K)
    (one_new : B → D) (one_old : A → D)
    (push_new : (ys : List B) (y : B) → new (ys ++ y ∷ []) ≡ snoc (new ys) (one_new y))
    (push_old : (xs : List A) (x : A) → old (xs ++ x ∷ []) ≡ snoc (old xs) (one_old x))
    (made pushed : List B) (xs : List A) (i : ℕ) (x : A) (y : B) →
    new made ≡ old (take i xs) → i < length xs → x ≡ get_or xs i x → pushed ≡ made ++ y ∷ [] →
    one_new y ≡ one_old x → new pushed ≡ old (take (i + 1) xs)
walked_more new old snoc one_new one_old push_new push_old made pushed xs i x y so_far inside is grows same =
    ap new grows
    ∙ push_new made y
    ∙ ap (λ b. snoc b (one_new y)) so_far
    ∙ ap (snoc (old (take i xs))) (same ∙ ap one_old is)
    ∙ sym (push_old (take i xs) (get_or xs i x))
    ∙ sym (ap old (take_more xs i x inside))

module _ {X N T C : Type 0} (g : phase.Ghosts X N T C) where
  -- an argument alone
  abbrev pub one_argument : Argument X N T C → Arguments g.SeenName g.SeenType g.SeenCall
  one_argument a = arguments (placed g a.label) (expression g a.value) no_arguments

module _ {W X N T C Y M U D : Type 0} (w : Ghosts W X Y N T C M U D) where
  -- an argument says the same where its parts do
  pub argument_walked : (new : Argument Y M U D) (old : Argument X N T C) →
      placed (after w) new.label ≡ placed (before w) old.label →
      expression (after w) new.value ≡ expression (before w) old.value →
      one_argument (after w) new ≡ one_argument (before w) old
  argument_walked new old label value =
      ap (λ l. arguments l (expression (after w) new.value) no_arguments) label
      ∙ ap (λ e. arguments (placed (before w) old.label) e no_arguments) value
