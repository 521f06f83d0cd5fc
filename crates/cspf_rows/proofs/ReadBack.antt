-- The records that are written for rows are read as these rows.
use Rattle.std.proofs.Common.{◌≡◌, ℕ, zero, suc, ◌<◌, ◌^◌, List, [], ◌∷◌, map, length, slice_index, unwrap_or, inl, refl, lit<, arith}
use Rattle.std.proofs.lemmas.List.{length-map}
use Rattle.std.specs.Fmt.{decimal}
use Rattle.csv.specs.Records.{field_at}
use Rattle.cspf_addr.specs.AddressText.{address_text}
use Rattle.cspf_addr.specs.HopLists.{AreHopListsReadBack, hops_text}
use Rattle.cspf_rows.specs.declared.row.Row.TheVariants as row
use Rattle.cspf_rows.specs.Says.{SpellsNumber, SpellsAddress, SpellsHops}
use Rattle.cspf_rows.specs.Written.{put_fields, drop_fields, node_fields, end_fields, ask_fields, ArePutsReadBack, AreDropsReadBack, AreNodesReadBack, AreEndsReadBack, AreAsksReadBack}
use Rattle.cspf_rows.specs.FieldTexts.{AreTextsRead}
use Rattle.cspf_rows.proofs.HopTexts.{no_object}
use Rattle.cspf_rows.proofs.RowLaws.{row_of-said}

-- Let each number of a list be written as a field. The field at an index is then the text of the
-- number at the same index.
decimal_at : (xs : List ℕ) (place : ℕ) → place < length xs → unwrap_or (field_at (map decimal xs) place) [] ≡ decimal (slice_index xs place)
unfolding field_at
decimal_at [] place within = absurd (omega (arith, within))
decimal_at (x ∷ xs) zero within = refl
decimal_at (x ∷ xs) (suc place) within = decimal_at xs place (omega (arith, within))

-- the text that is written for a value spells this value; the next lemmas state this for each sort
-- of field
number_written : {bound : ℕ} (n : ℕ) → n < bound → SpellsNumber bound (decimal n) n
number_written n small = record { small = small; written = refl }

address_written : (n : ℕ) → n < 2 ^ 32 → SpellsAddress (address_text n) n
address_written n small = record { small = small; written = refl }

pub puts_read_back : AreTextsRead → ArePutsReadBack
unfolding field_at
puts_read_back texts link group range mask =
    row_of-said texts (put_fields link group) (row.Put link) (record {
      count = omega (arith, length-map link.free decimal, link.eight);
      kind = refl;
      from = address_written link.from range.from;
      local = address_written link.local range.local;
      to = address_written link.to range.to;
      remote = address_written link.remote range.remote;
      metric = number_written link.metric range.metric;
      group = mask;
      free_0 = record { small = range.free 0 (lit< tt); written = decimal_at link.free 0 (omega (arith, link.eight)) };
      free_1 = record { small = range.free 1 (lit< tt); written = decimal_at link.free 1 (omega (arith, link.eight)) };
      free_2 = record { small = range.free 2 (lit< tt); written = decimal_at link.free 2 (omega (arith, link.eight)) };
      free_3 = record { small = range.free 3 (lit< tt); written = decimal_at link.free 3 (omega (arith, link.eight)) };
      free_4 = record { small = range.free 4 (lit< tt); written = decimal_at link.free 4 (omega (arith, link.eight)) };
      free_5 = record { small = range.free 5 (lit< tt); written = decimal_at link.free 5 (omega (arith, link.eight)) };
      free_6 = record { small = range.free 6 (lit< tt); written = decimal_at link.free 6 (omega (arith, link.eight)) };
      free_7 = record { small = range.free 7 (lit< tt); written = decimal_at link.free 7 (omega (arith, link.eight)) };
    })

pub drops_read_back : AreTextsRead → AreDropsReadBack
unfolding field_at
drops_read_back texts from local small_from small_local =
    row_of-said texts (drop_fields from local) (row.Remove from local) (record { count = refl; kind = refl; from = address_written from small_from; local = address_written local small_local })

pub nodes_read_back : AreTextsRead → AreNodesReadBack
unfolding field_at
nodes_read_back texts router transit small =
    row_of-said texts (node_fields router transit) (row.Node router transit) (record { count = refl; kind = refl; router = address_written router small; transit = refl })

pub ends_read_back : AreTextsRead → AreEndsReadBack
unfolding field_at
ends_read_back texts number count small_number small_count =
    row_of-said texts (end_fields number count) (row.End number count) (record { count = refl; kind = refl; number = number_written number small_number; has = number_written count small_count })

pub asks_read_back : AreTextsRead → AreHopListsReadBack → AreAsksReadBack
unfolding field_at
asks_read_back texts hop_lists request exclude_any include_any include_all range exclude_mask any_mask all_mask =
    let hops : SpellsHops (hops_text request.hops) request.hops = inl (record { other = no_object texts.numbers request.hops; read = hop_lists request.hops range.few range.hops }) in
    row_of-said texts (ask_fields request exclude_any include_any include_all) (row.Ask request) (search (number_written, address_written, range.id, range.from, range.to, range.bandwidth, request.priority, exclude_mask, any_mask, all_mask, hops))
