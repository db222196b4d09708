-- Counts up to two.
use Rattle.std.specs.Prelude.{ℕ, zero, suc}
use Rattle.au_lives.specs.Mentions.{Counts}
use Rattle.au_lives.specs.declared.tallies.Few.{Few}
use Rattle.au_lives.specs.declared.tallies.Few.TheVariants.{Zero, One, More}
use Rattle.au_lives.specs.declared.tallies.Tally.{Tally}

-- none, one, or more than one
abbrev pub few : ℕ → Few
few zero = Zero
few (suc zero) = One
few (suc (suc n)) = More

-- each count, up to two
abbrev pub tally_of : Counts → Tally
tally_of k = record {
  consumed = few k.consumed;
  written = few k.written;
  read = few k.read;
  looked =
      few k.looked;
}

-- the sum, up to two
abbrev pub few_and : Few → Few → Few
few_and Zero other = other
few_and One Zero = One
few_and One One = More
few_and One More = More
few_and More other = More

abbrev pub tally_and : Tally → Tally → Tally
tally_and one other =
    record {
      consumed = few_and one.consumed other.consumed;
      written = few_and one.written other.written;
      read = few_and one.read other.read;
      looked = few_and one.looked other.looked;
    }
