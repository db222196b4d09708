-- Names that are declared one after another in one block, each of them new, are there once each.
use Rattle.std.proofs.Common.{◌≡◌, ℕ, zero, suc, Bool, true, false, ◌&&◌, not, List, [], ◌∷◌, ◌++◌, map, Some}
use Rattle.std.proofs.Common.{refl, sym, ap, ◌∙◌, subst, append_assoc, arith}
use Rattle.std.specs.Prelude.{slice_get}
use Rattle.std.specs.List.{flat_map}
use Rattle.std.specs.Str.{bytes_eq}
use Rattle.std.proofs.lemmas.List.{map-append}
use Rattle.std.proofs.lemmas.Option.{none-some, same_Some}
use Rattle.std.proofs.lemmas.Slice.Eq.{bytes_eq-Decides}
use Rattle.au_base.specs.declared.places.Pos.{Pos}
use Rattle.au_syntax.specs.Plain.{Bytes}
use Rattle.au_syntax.specs.Types.{Labelled}
use Rattle.au_rules.specs.declared.marks.Kind.{Kind}
use Rattle.au_rules.specs.declared.marks.Mark.{Mark}
use Rattle.au_rules.specs.declared.marks.Mark.TheVariants.{Opens, Closes, Declares}
use Rattle.au_rules.specs.declared.marks.Role.TheVariants.{Local}
use Rattle.au_rules.specs.Marks.{enclosed, labelled_mark}
use Rattle.au_rules.specs.Once.{AreNew, IsInBlock, IsNew, StaysOpen, closed}
use Rattle.au_running.specs.Suits.{are_once, is_lacking}

-- ---- a part of the text

-- marks in which no name is declared again, somewhere in a text
pub record AreNewThere (all : List Mark) : Type 0 where
  pub foreign : Kind → Bytes → Bool
  pub before : List Mark
  pub new : AreNew foreign before all

-- those that stand first among such marks are such, and so are those behind them
pub first_new : (some more : List Mark) → AreNewThere (some ++ more) → AreNewThere some
first_new some more there = record {
  foreign = there.foreign;
  before = there.before;
  new = λ first rest role kind name at is. there.new first (rest ++ more) role kind name at
      (ap (λ l. l ++ more) is ∙ append_assoc first (Declares role kind name at ∷ rest) more);
}

pub rest_new : (some more : List Mark) → AreNewThere (some ++ more) → AreNewThere more
rest_new some more there = record {
  foreign = there.foreign;
  before = there.before ++ some;
  new = λ first rest role kind name at is. subst (λ l. IsNew there.foreign l role kind name)
      (sym (append_assoc there.before some first))
      (there.new (some ++ first) rest role kind name at
      (ap (λ l. some ++ l) is ∙ sym (append_assoc some first (Declares role kind name at ∷ rest))));
}

-- so are those in a block
pub inside_new : (inside : List Mark) → AreNewThere (enclosed inside) → AreNewThere inside
inside_new inside there =
    first_new inside (Closes ∷ []) (rest_new (Opens ∷ []) (inside ++ Closes ∷ []) there)

-- and those of an item of a list
pub item_new : {A : Type 0} (f : A → List Mark) (all : List A) (index : ℕ) (one : A)
    → slice_get all index ≡ Some one → AreNewThere (flat_map f all) → AreNewThere (f one)
item_new f [] index one is there = absurd (none-some one is)
item_new f (first ∷ rest) zero one is there =
    subst (λ a. AreNewThere (f a)) (same_Some first one is) (first_new (f first) (flat_map f rest) there)
item_new f (first ∷ rest) (suc index) one is there =
    item_new f rest index one is (rest_new (f first) (flat_map f rest) there)

-- ---- names in a block

-- the names of parameters or fields
abbrev pub names_written : List (Labelled Bytes) → List Bytes
names_written all = map (λ (one : Labelled Bytes). one.name.name) all

module _ (kind : Kind) where
  -- what declares them
  abbrev pub marks_written : List (Labelled Bytes) → List Mark
  marks_written all = map (labelled_mark kind) all

  -- where no block ends, each stays open
  none_closed : (all : List (Labelled Bytes)) (first rest : List Mark) → marks_written all ≡ first ++ rest
      → closed first ≡ 0
  none_closed all [] rest is = refl
  none_closed [] (m ∷ first) rest is = absurd cc
  none_closed (one ∷ all) (Opens ∷ first) rest is = absurd cc
  none_closed (one ∷ all) (Closes ∷ first) rest is = absurd cc
  none_closed (one ∷ all) (Declares role its name at ∷ first) rest is =
      let more : marks_written all ≡ first ++ rest = cc in none_closed all first rest more

  stays_open : (all : List (Labelled Bytes)) → StaysOpen (marks_written all)
  stays_open all first rest is = omega (arith, none_closed all first rest is)

  -- a name is declared, and then others: none of those behind is the same
  is_lacked : (foreign : Kind → Bytes → Bool) (before : List Mark) (name : Bytes) (at : Pos)
      (between rest : List (Labelled Bytes))
      → AreNew foreign before (Declares Local kind name at ∷ (marks_written between ++ marks_written rest))
      → is_lacking name (names_written rest) ≡ true
  is_lacked foreign before name at between [] new = refl
  is_lacked foreign before name at between (one ∷ rest) new =
      by_test (bytes_eq name one.name.name) refl
      (is_lacked foreign before name at (between ++ one ∷ []) rest
      (subst (λ l. AreNew foreign before (Declares Local kind name at ∷ l)) (sym moved) new))
    where
      moved : marks_written (between ++ one ∷ []) ++ marks_written rest
          ≡ marks_written between ++ marks_written (one ∷ rest)
      moved =
          ap (λ l. l ++ marks_written rest) (map-append (labelled_mark kind) between (one ∷ []))
          ∙ append_assoc (marks_written between) (labelled_mark kind one ∷ []) (marks_written rest)

      by_test : (b : Bool) → bytes_eq name one.name.name ≡ b → is_lacking name (names_written rest) ≡ true
          → is_lacking name (names_written (one ∷ rest)) ≡ true
      by_test true is more =
          let same : name ≡ one.name.name = (bytes_eq-Decides name one.name.name).0 is in
          let first : List Mark = Declares Local kind name at ∷ marks_written between in
          let one_new = new first (marks_written rest) Local kind one.name.name one.name.at refl in
          absurd (one_new.2 (subst (IsInBlock (before ++ first) kind) same
          (before, marks_written between, at, refl, stays_open between)))
      by_test false is more = λ i. not (is i) && more i

  -- names that are declared one after another are there once each
  pub declared_once : (all : List (Labelled Bytes)) → AreNewThere (marks_written all)
      → are_once (names_written all) ≡ true
  declared_once [] there = refl
  declared_once (one ∷ rest) there = λ i.
      is_lacked there.foreign there.before one.name.name one.name.at [] rest there.new i
      && declared_once rest (rest_new (labelled_mark kind one ∷ []) (marks_written rest) there) i
