-- The proofs of demand 1, an entry at a time: each cites the promises of the crate that has it.
-- Assumes nothing.
use Rattle.std.specs.Prelude.{Option}
use Prim.Native.Nat.{ℕ, ◌-◌, ◌≤◌}
use mathlib.Core.Path.{◌≡◌, refl, ap}
use mathlib.Core.Bool.{true}
use mathlib.Core.List.{List}
use lib.ListN.{length, drop}
use lib.Seq.{drop-append_seam}
use Rattle.luck_token.specs.Decode.{DecodeOutcome, value, refused, decode_string, decoding_of, output_of}
use Rattle.luck_token.proofs.Promises as decodings
use Rattle.luck_text.specs.Bytes.{among}
use Rattle.luck_answer.specs.Answer.{Answer}
use Rattle.luck_answer.proofs.Answers.{Whole}
use Rattle.luck_linter.specs.StringLiteral.{check_literal}
use Rattle.luck_linter.specs.Checks.{Check, check_of, answer, numbers, named_numbers}
use Rattle.luck_linter.proofs.Refusals.{refusals, counts, wholes, literal_refusals, literal_counts, literal_wholes}
use Rattle.luck_linter.proofs.Spans.{literal_marked}
use Rattle.luck_line.specs.Line.{line_answer, line_numbers}
use Rattle.luck_line.proofs.Answers.{line_fits, line_whole}
use Rattle.lstr_gsub.specs.Gsub.{gsub, report, output_after}
use Rattle.lstr_gsub.proofs.Promises as trials
use Rattle.starred.specs.Promised.{ChecksText, ChecksLiteral, Decodes, Tries, PromisedLine}

whole_checks : (list : List ℕ) (len : ℕ) (a : Answer) → (a.offset ≤ len) × (among a.number list ≡ true) → Whole a → a.count ≤ len → ChecksText list len a
whole_checks list len a r w c =
    record {
      numbered = r.1;
      offset_within = r.0;
      count_within = c;
      accepted_bare = w.accepted_bare;
      refused_uncounted = w.refused_uncounted;
      unplaced = w.unplaced;
      first_character = w.first_character;
      second_character = w.second_character;
    }

pub checks : (c : Check) (version : ℕ) (text : List ℕ) → ChecksText (numbers c) (length text) (answer c version text)
checks c version text =
    whole_checks (numbers c) (length text) (answer c version text) (refusals c version text) (wholes c version text) (counts c version text)

pub checks_literal : (kind : ℕ) (captures : Option ℕ) (start version : ℕ) (text : List ℕ)
    → ChecksLiteral (named_numbers (check_of kind captures)) (length text) (check_literal kind version captures start text)
checks_literal kind captures start version text =
    let m = literal_marked kind captures start version text in
    record {
      answers =
          whole_checks (named_numbers (check_of kind captures)) (length text) (check_literal kind version captures start text).answer
          (literal_refusals kind captures start version text) (literal_wholes kind captures start version text) (literal_counts kind captures start version text);
      skipped_empty = m.skipped_empty;
      spanned_where = m.spanned_where;
      span_of_others = m.span_of_others;
    }

behind_value : (o : DecodeOutcome) (output : List ℕ) → drop (decoding_of o).written (output_of o output) ≡ drop (decoding_of o).written output
unfolding decoding_of output_of
behind_value (value bytes) output = drop-append_seam bytes (drop (length bytes) output)
behind_value (refused number offset) output = refl

pub decodes : (version : ℕ) (text output : List ℕ)
    → Decodes text output (decoding_of (decode_string version text (length output))) (output_of (decode_string version text (length output)) output)
decodes version text output =
    let room = length output in
    record {
      numbered = decodings.numbers version text room;
      offset_within = decodings.offset_within version text room;
      offset_of_others = decodings.offset_of_others version text room;
      in_room = decodings.written_in_room version text room;
      in_text = decodings.written_in_text version text room;
      room_enough = decodings.room_enough version text room;
      refused_empty = decodings.refused_empty version text room;
      refused_untouched = λ n. decodings.refused_untouched version text room n output;
      length_kept = decodings.length_kept version text room output refl;
      behind_untouched = behind_value (decode_string version text room) output;
    }

pub tries : (version : ℕ) (sub pat rep : List ℕ) (budget : ℕ) (output : List ℕ)
    → Tries budget output (report (gsub version pat rep sub budget (length output))) (output_after output (gsub version pat rep sub budget (length output)))
tries version sub pat rep budget output =
    let room = length output in
    record {
      numbered = trials.numbers version pat rep sub budget room;
      kind_of_raised = trials.kind_of_raised version pat rep sub budget room;
      kind_of_others = trials.kind_of_others version pat rep sub budget room;
      steps_within = trials.steps_within version pat rep sub budget room;
      spent_exactly = trials.spent_exactly version pat rep sub budget room;
      in_room = trials.written_within version pat rep sub budget room;
      filled_exactly = trials.filled_exactly version pat rep sub budget room;
      nothing_with_25 =
          λ e. let nothing = trials.nothing_with_25 version pat rep sub budget room e in
          (ap (λ a. (report a).written) nothing, ap (λ a. (report a).replacements) nothing, ap (λ a. (report a).steps) nothing);
      length_kept = trials.length_kept version pat rep sub budget room output refl;
      behind_untouched = drop-append_seam (gsub version pat rep sub budget room).written _;
    }

pub lines : (line : List ℕ) → PromisedLine line
lines line =
    let fits = line_fits line in
    whole_checks line_numbers (length line - 5) (line_answer line) (fits.0, fits.1) (line_whole line) fits.2
