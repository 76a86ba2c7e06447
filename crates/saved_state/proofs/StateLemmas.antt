-- The services of a state as its bytes have them.
use Rattle.std.proofs.Common.{◌≡◌, ℕ, ◌<◌, ◌≤◌, List, [], ◌∷◌, ◌++◌, length, map, flat_map, get_or, All, refl, sym, ap, ap₂, subst, ◌∙◌, arith, inl, inr}
use Rattle.std.proofs.lemmas.List.{length-map, length-append}
use Rattle.propagation.specs.Lists.{AreDistinct, Has}
use Rattle.propagation.proofs.Lists.{Has-append_left, Has-append_right}
use Rattle.svc_expr.specs.Canonical.{name_at}
use Rattle.svc_expr.specs.Grammar.{name_index}
use Rattle.svc_expr.specs.Names.{Differ}
use Rattle.svc_graph.proofs.Changed.{kind_at-roster}
use Rattle.svc_graph.specs.Book.{IsBook, IsDefinitionOf}
use Rattle.svc_graph.specs.declared.definition.Definition.{Definition}
use Rattle.svc_graph.specs.declared.definition.Definition.TheVariants as definition
use Rattle.svc_graph.specs.declared.kind.Kind.{Kind}
use Rattle.svc_graph.specs.History.{Row, kind_of, roster_of, row_at}
use Rattle.svc_graph.specs.Refusals.{kind_at}
use Rattle.svc_token.specs.Word.{IsName}
use Rattle.saved_state.specs.declared.saved.Saved.{Saved}
use Rattle.saved_state.specs.declared.saved.ServiceRow.{ServiceRow}
use Rattle.saved_state.specs.declared.named.NamedRow.{NamedRow}
use Rattle.saved_state.specs.Bytes.{service_bytes, FitsDefinition, IsStateOf}
use Rattle.saved_state.specs.Named.{named_bytes, named_definition, named_row, named_rows, names_of, numbered_rows, IsKnown, FitsNamed, IsNamedDefinition, IsNamedRow, IsReadRow}
use Rattle.saved_state.specs.Writing.{HasPrintable, IsPrintable}
use Rattle.saved_state.specs.States.{names_in, names_at, row_of, rows_of, IsOrdered, IsState}
use Rattle.saved_state.proofs.ListLemmas.{all_head, all_tail, all_mapped, all_unmapped}
use Rattle.saved_state.proofs.JudgingLemmas.{row_there, many}
use Rattle.saved_state.proofs.NamingLemmas.{rows_named, rows_ordered, numbered_back, named_known, number_there, has_each, names_differ, as_many}

-- ---- the bytes

same_bytes : (names : List (List ℕ)) (service : ServiceRow) → service_bytes names service ≡ named_bytes (named_row names service)
same_bytes names service = by service.definition refl
  where
    by : (d : Definition) → service.definition ≡ d → service_bytes names service ≡ named_bytes (named_row names service)
    by (definition.Input value) e = (λ i. service_bytes names (record service { definition = e i })) ∙ (λ i. named_bytes (named_row names (record service { definition = sym e i })))
    by (definition.Derived formula) e = (λ i. service_bytes names (record service { definition = e i })) ∙ (λ i. named_bytes (named_row names (record service { definition = sym e i })))

pub all_bytes : (names : List (List ℕ)) (services : List ServiceRow) → flat_map (service_bytes names) services ≡ flat_map named_bytes (map (named_row names) services)
all_bytes names [] = refl
all_bytes names (service ∷ services) = ap₂ (λ (a b : List ℕ). a ++ b) (same_bytes names service) (all_bytes names services)

-- ---- names of numbers

module _ (names : List (List ℕ)) (differ : Differ names) where
  has_back : (ps : List ℕ) (p : ℕ) → All (λ q. q < length names) ps → p < length names → Has (names_at names ps) (name_at names p) → Has ps p
  has_back [] p below l has = absurd has
  has_back (q ∷ ps) p below l (inl same) =
      inl (sym (number_there names q differ (all_head (λ r. r < length names) q ps below)) ∙ ap (name_index names) same ∙ number_there names p differ l)
  has_back (q ∷ ps) p below l (inr later) = inr (has_back ps p (all_tail (λ r. r < length names) q ps below) l later)

  names_apart : (ps : List ℕ) → AreDistinct ps → All (λ q. q < length names) ps → Differ (names_at names ps)
  names_apart [] distinct below = tt
  names_apart (p ∷ ps) distinct below =
      let rest = all_tail (λ r. r < length names) p ps below in
      ((λ has. distinct.0 (has_back ps p rest (all_head (λ r. r < length names) p ps below) has)), names_apart ps distinct.1 rest)

names_are : (names : List (List ℕ)) (ps : List ℕ) → All IsName names → All (λ q. q < length names) ps → All IsName (names_at names ps)
names_are names ps h below = all_mapped IsName (name_at names) ps (λ k d l. h (get_or ps k d) [] (below k d l))

-- ---- each service

module _ (saved : Saved) (bytes : List ℕ) (is : IsStateOf saved bytes) where
  abbrev services : List ServiceRow
  services = saved.services

  abbrev names : List (List ℕ)
  names = names_in saved.services

  kind_there : (n : ℕ) (d : ServiceRow) → n < length services → kind_at (roster_of (rows_of services)) n ≡ kind_of (row_of (get_or services n d))
  kind_there n d l = kind_at-roster (rows_of services) n ∙ ap kind_of (row_there services n d l)

  defined : (n : ℕ) (d : ServiceRow) → n < length services → IsDefinitionOf (roster_of (rows_of services)) n (get_or services n d).definition
  defined n d l =
      (is.state.book.each n (omega (arith, l, many services))).definitions (get_or services n d).definition
      (subst (λ (row : Row). Has row.history (get_or services n d).definition) (sym (row_there services n d l)) (inl refl))

  few_bytes : (n : ℕ) → length services ≡ n → n ≤ 64
  few_bytes n e = let few = is.state.book.few in omega (arith, few, many services, e)

  read_definition : (rank : ℕ) (kinds : List Kind) (n : ℕ) (d : Definition) → (kind_at kinds n).rank ≡ rank → length kinds ≡ length names → length names ≤ 64 → IsDefinitionOf kinds n d →
      IsOrdered names d → FitsDefinition names d → IsNamedDefinition rank (named_definition names d) × FitsNamed (named_definition names d)
  read_definition rank kinds n (definition.Input value) e long few h order fits = ((sym e ∙ h.0, h.2), fits)
  read_definition rank kinds n (definition.Derived formula) e long few h order fits =
      let below : (p : ℕ) → Has (formula.fixed ++ formula.members) p → p < length names = λ p has. let b = (h.1.below p has).declared in omega (arith, b, long) in
      let fixed : All (λ q. q < length names) formula.fixed = λ k d l. below (get_or formula.fixed k d) (Has-append_left formula.fixed formula.members (get_or formula.fixed k d) (has_each formula.fixed k d l)) in
      let most = h.1.few in (
        (
          omega (arith, e, h.0),
          record {
            small = h.1.written.small;
            count = length-map formula.fixed (name_at names) ∙ h.1.written.names;
            differ = names_apart names (names_differ services is.state.book) formula.fixed h.1.written.apart fixed;
            names = names_are names formula.fixed is.state.names fixed;
            order = order;
          },
        ),
        record {
          tree = fits.0;
          text = fits.1;
          few = omega (arith, most, length-append formula.fixed formula.members);
          members = λ k d l. let b = below (get_or formula.members k d) (Has-append_right formula.fixed formula.members (get_or formula.members k d) (has_each formula.members k d l)) in omega (arith, b, few);
        },
      )

  read_row : (n : ℕ) (d : ServiceRow) → n < length services → IsReadRow (named_row names (get_or services n d))
  read_row n d l =
      let few = is.state.book.few in
      let both = read_definition (get_or services n d).rank (roster_of (rows_of services)) n (get_or services n d).definition (ap (λ (k : Kind). k.rank) (kind_there n d l)) (as_many services is.state.book)
      (omega (arith, few, many services, length-map services (λ (s : ServiceRow). s.name))) (defined n d l) (is.state.ordered n d l) (is.fits n d l) in
      let rank : (row_at (rows_of services) n).rank ≤ 1000 = (is.state.book.each n (omega (arith, l, many services))).rank in
      let same = ap (λ (r : Row). r.rank) (row_there services n d l) in (
        record {
          name = all_unmapped IsName (λ (s : ServiceRow). s.name) services is.state.names n d l;
          rank = omega (arith, rank, same);
          definition = both.0;
        },
        both.1,
      )

  pub read_rows : All IsReadRow (named_rows services)
  read_rows = all_mapped IsReadRow (named_row names) services read_row

  pub rows_many : length (named_rows services) ≡ length services
  rows_many = length-map services (named_row names)

-- ---- a state can be written

module _ (saved : Saved) (state : IsState saved) where
  printable_definition : (kinds : List Kind) (n : ℕ) (d : Definition) → length kinds ≡ length (names_in saved.services) → IsDefinitionOf kinds n d → IsOrdered (names_in saved.services) d →
      HasPrintable (names_in saved.services) d
  printable_definition kinds n (definition.Input value) long h order = tt
  printable_definition kinds n (definition.Derived formula) long h order =
      let fixed : All (λ q. q < length (names_in saved.services)) formula.fixed =
      λ k d l. let b = (h.1.below (get_or formula.fixed k d) (Has-append_left formula.fixed formula.members (get_or formula.fixed k d) (has_each formula.fixed k d l))).declared in omega (arith, b, long) in
      let most = h.1.few in
      record {
        written = h.1.written;
        few = omega (arith, most, length-append formula.fixed formula.members);
        are_names = names_are (names_in saved.services) formula.fixed state.names fixed;
        order = order;
      }

  printable_service : (n : ℕ) (d : ServiceRow) → n < length saved.services → IsPrintable (names_in saved.services) (get_or saved.services n d)
  printable_service n d l = record {
    name = (all_unmapped IsName (λ (s : ServiceRow). s.name) saved.services state.names n d l).short;
    definition = printable_definition (roster_of (rows_of saved.services)) n (get_or saved.services n d).definition (as_many saved.services state.book)
        ((state.book.each n (omega (arith, l, many saved.services))).definitions (get_or saved.services n d).definition
        (subst (λ (row : Row). Has row.history (get_or saved.services n d).definition) (sym (row_there saved.services n d l)) (inl refl)))
        (state.ordered n d l);
  }

  pub printable : All (IsPrintable (names_in saved.services)) saved.services
  printable n d l = printable_service n d l

  pub few_services : length saved.services ≤ 64
  few_services = let few = state.book.few in omega (arith, few, many saved.services)

-- ---- what was read is a state, and the state that the bytes have

pub state_read : (leg : ℕ) (rows : List NamedRow) (services : List ServiceRow) → services ≡ numbered_rows rows → 1 ≤ leg → leg ≤ 1000 → All IsNamedRow rows →
    All (λ row. IsKnown (names_of rows) row.definition) rows → IsBook (rows_of services) → IsState (record { leg = leg; services = services })
state_read leg rows _ same begun ended named known book = record {
  begun = begun;
  ended = ended;
  book = book;
  names = subst (λ (ss : List ServiceRow). All IsName (names_in ss)) (sym same) (rows_named rows named);
  ordered = subst (λ (ss : List ServiceRow). All (λ service. IsOrdered (names_in ss) service.definition) ss) (sym same) (rows_ordered rows known named);
}

pub services_back : (saved : Saved) (rows : List NamedRow) (services : List ServiceRow) → IsState saved → rows ≡ named_rows saved.services → services ≡ numbered_rows rows → services ≡ saved.services
services_back saved rows _ state named same = same ∙ ap numbered_rows named ∙ numbered_back saved.services state.book

pub known_back : (saved : Saved) (rows : List NamedRow) → IsState saved → rows ≡ named_rows saved.services → All (λ row. IsKnown (names_of rows) row.definition) rows
known_back saved rows state named = subst (λ (rs : List NamedRow). All (λ row. IsKnown (names_of rs) row.definition) rs) (sym named) (named_known saved.services state.book)

pub book_back : (saved : Saved) (services : List ServiceRow) → IsState saved → services ≡ saved.services → IsBook (rows_of services)
book_back saved _ state same = subst (λ (ss : List ServiceRow). IsBook (rows_of ss)) (sym same) state.book
