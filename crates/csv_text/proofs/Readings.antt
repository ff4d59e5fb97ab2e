-- What the reader makes of some texts, by computation: it refuses what the grammar has not.
use mathlib.Core.Path.{◌≡◌, refl}
use mathlib.Core.List.{[], ◌∷◌}
use mathlib.Core.Option.{none, some}
use Rattle.rules.specs.Listing.{ascii}
use Rattle.csv_text.specs.Csv.{class_of, doubled, field, record_text, read_from, read, csv}

pub record Readings : Type 0 where
  pub two_fields : read (ascii "a,\"b\"\"c\"\r\n") ≡ some ((ascii "a" ∷ ascii "b\"c" ∷ []) ∷ [])
  pub no_last_break : read (ascii "a,b\r\nc,") ≡ some ((ascii "a" ∷ ascii "b" ∷ []) ∷ (ascii "c" ∷ [] ∷ []) ∷ [])
  pub break_in_quotes : read (ascii "\"a\r\nb\"\r\n") ≡ some ((ascii "a\r\nb" ∷ []) ∷ [])
  pub quote_inside : read (ascii "a\"b\r\n") ≡ none
  pub not_closed : read (ascii "\"a\r\n") ≡ none
  pub behind_the_quote : read (ascii "\"a\"b\r\n") ≡ none
  pub cr_alone : read (ascii "a\rb\r\n") ≡ none
  pub lf_alone : read (ascii "a\nb\r\n") ≡ none
  pub tab : read (ascii "a\tb\r\n") ≡ none
  pub written : csv ((ascii "0" ∷ ascii "37" ∷ ascii "Hull \"HP\"" ∷ ascii "430.37" ∷ []) ∷ (ascii "2" ∷ ascii "20" ∷ ascii "\r" ∷ ascii "*" ∷ []) ∷ []) ≡ ascii "0,37,\"Hull \"\"HP\"\"\",430.37\r\n2,20,\"\r\",*\r\n"

pub readings : Readings
unfolding class_of doubled field record_text read_from read
readings =
    record {
      two_fields = refl;
      no_last_break = refl;
      break_in_quotes = refl;
      quote_inside = refl;
      not_closed = refl;
      behind_the_quote = refl;
      cr_alone = refl;
      lf_alone = refl;
      tab = refl;
      written = refl;
    }
