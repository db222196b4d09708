-- Kinds of references that are the same, and the keys of written types as they are put together.
use Rattle.std.proofs.Common.{
  ◌≡◌,
  ℕ,
  ◌+◌,
  ◌<◌,
  ◌≤◌,
  suc,
  List,
  [],
  ◌∷◌,
  ◌++◌,
  length,
  drop,
  get_or,
  refl,
  ap,
  sym,
  ◌∙◌,
  add-one,
  drop-cons,
  append_assoc,
}
use Rattle.std.proofs.lemmas.List.{drop_all}
use denote.Enum.Bare.{sameb}
use Rattle.au_syntax.specs.contracts.types.Access.{the_type as access}
use Rattle.au_syntax.specs.declared.types.Access.{Access}
use Rattle.au_syntax.specs.declared.types.Access.TheVariants as kinds
use Rattle.au_syntax.specs.declared.types.TypeText.{TypeText}
use Rattle.au_syntax.specs.Plain.{Bytes}
use Rattle.au_syntax.specs.Views.{written, written_all}
use Rattle.au_types.specs.declared.headings.Head.{Head}
use Rattle.au_types.specs.declared.parameters.Parameter.{Parameter}
use Rattle.au_types.specs.declared.types.DeclAt.{DeclAt}
use Rattle.au_promises.specs.Keys.{wording_key, wordings_key}
use Rattle.au_promises.specs.Wording.{same_access}

-- the test for equality decides whether references are of one kind
pub accesses_same : (a b : Access) → sameb access a b ≡ same_access a b
accesses_same kinds.Read kinds.Read = refl
accesses_same kinds.Read kinds.Write = refl
accesses_same kinds.Write kinds.Read = refl
accesses_same kinds.Write kinds.Write = refl

-- a sign, a word and what follows are put behind a key
pub wording_turn : (key one two last w rest : Bytes) (sign : ℕ) → one ≡ key ++ sign ∷ []
    → two ≡ one ++ w → last ≡ two ++ rest → last ≡ key ++ (sign ∷ w ++ rest)
wording_turn key one two last w rest sign first then end =
    end
    ∙ ap (λ k. k ++ rest) (then ∙ ap (λ k. k ++ w) first)
    ∙ append_assoc (key ++ sign ∷ []) w rest
    ∙ append_assoc key (sign ∷ []) (w ++ rest)

-- one argument more is put behind a key
pub wordings_turn : (key one two w r rest all : Bytes) → one ≡ key ++ 1 ∷ []
    → two ≡ one ++ w → r ≡ 1 ∷ w ++ rest → key ++ r ≡ all → two ++ rest ≡ all
wordings_turn key one two w r rest all first then left old =
    ap (λ k. k ++ rest) (then ∙ ap (λ k. k ++ w) first)
    ∙ append_assoc (key ++ 1 ∷ []) w rest
    ∙ append_assoc key (1 ∷ []) (w ++ rest)
    ∙ ap (λ l. key ++ l) (sym left)
    ∙ old

module _ (scope : List Parameter) (visible : List (Bytes × DeclAt)) (rows : List (DeclAt × Head))
    (xs : List TypeText) (i : ℕ) where
  -- what is left from an argument on
  pub wordings_left : (x : TypeText) → i < length xs → x ≡ get_or xs i x
      → wordings_key scope visible rows (written_all (drop i xs))
      ≡ 1 ∷ wording_key scope visible rows (written x) ++ wordings_key scope visible rows
      (written_all (drop (i + 1) xs))
  wordings_left x within here =
      ap (λ r. wordings_key scope visible rows (written_all r))
      (drop-cons xs i x within ∙ ap (λ y. y ∷ drop (suc i) xs) (sym here)
      ∙ ap (λ n. x ∷ drop n xs) (sym (add-one i)))

  -- no argument is left
  pub wordings_end : (key last all : Bytes) → length xs ≤ i
      → key ++ wordings_key scope visible rows (written_all (drop i xs)) ≡ all
      → last ≡ key ++ 0 ∷ [] → last ≡ all
  wordings_end key last all past old is = is
      ∙ ap (λ r. key ++ wordings_key scope visible rows (written_all r)) (sym (drop_all i xs past)) ∙ old
