-- The trial of gsub (str_gsub of lstrlib.c 5.4, and document 01, "The trial"), within a budget of steps and into an
-- output of a given room.
-- Assumes nothing.
use Rattle.std.specs.Prelude.{ℕ, zero, suc, ◌+◌, ◌-◌, Bool, false, List, [], ◌∷◌, length, drop, eqb, ltb, Option, None, Some}
use Prim.Native.Char.{code}
use Rattle.luck_text.specs.Bytes.{when◌then◌else◌, byte_at, in_front}
use Rattle.luck_token.specs.Version.{is_version, rules_of}
use Rattle.luck_pattern.specs.Items.{Item, items}
use Rattle.luck_replacement.specs.Replacement.{is_strict, pieces}
use Rattle.lstr_class.specs.Class.{class_of}
use Rattle.lstr_gsub.specs.declared.gsub.Trial.{Trial}
use Rattle.lstr_item.specs.Match.{Capture, Outcome, matched, failed, stopped, match}
use Rattle.lstr_write.specs.Replace.{Wrote, wrote, ended, append, add_pieces}

-- number (0: done), kind (0 unless the number is 29), the bytes written, the replacements, the steps
pub record TrialResult : Type 0 where
  pub number : ℕ
  pub kind : ℕ
  pub written : List ℕ
  pub replacements : ℕ
  pub steps : ℕ

abbrev pub result : ℕ → ℕ → List ℕ → ℕ → ℕ → TrialResult
result number kind out n u = record { number = number; kind = kind; written = out; replacements = n; steps = u }

-- what a trial reports: its result, with the number of the bytes written
pub record Report : Type 0 where
  pub number : ℕ
  pub kind : ℕ
  pub written : ℕ
  pub replacements : ℕ
  pub steps : ℕ

abbrev pub report : TrialResult → Report
report a =
    record {
      number = a.number;
      kind = a.kind;
      written = length a.written;
      replacements = a.replacements;
      steps = a.steps;
    }

-- the lent output at exit
abbrev pub output_after : List ℕ → TrialResult → List ℕ
output_after output a = in_front a.written output

-- what goes on after a writing, which may have ended the trial
unfoldable pub and_wrote : Wrote → ℕ → ℕ → (List ℕ → TrialResult) → TrialResult
and_wrote (wrote out) n u k = k out
and_wrote (ended number kind out) n u k = result number kind out n u

-- the rounds that follow, from a place, the end of the last match, what is written, the replacements and the steps on
abbrev pub Rounds : Type 0
Rounds = ℕ → Option ℕ → List ℕ → ℕ → ℕ → TrialResult

-- what is written for a match, from its start, its end, its captures and what is written so far
abbrev pub Writer : Type 0
Writer = ℕ → ℕ → List Capture → List ℕ → Wrote

-- a match that ends at e ends where the last one did
unfoldable pub ends_again : ℕ → Option ℕ → Bool
ends_again e None = false
ends_again e (Some last) = eqb e last

module _ (sub : List ℕ) (room : ℕ) where
  -- no replacement at s: a byte is copied, or at the end the run stops
  unfoldable pub copy_byte : Rounds → Rounds
  copy_byte next s last out n u =
      let on = and_wrote (append room (byte_at sub s ∷ []) out) n u (λ now. next (s + 1) last now n u) in
      when ltb s (length sub) then on else result 0 0 out n u

  -- the rest of the subject is copied
  unfoldable pub copy_rest : ℕ → List ℕ → ℕ → ℕ → TrialResult
  copy_rest s out n u = and_wrote (append room (drop s sub) out) n u (λ now. result 0 0 now n u)

  module _ (write : Writer) where
    -- a round at s, by the outcome of its attempt: the replacement is counted, then written
    unfoldable pub round : Rounds → Outcome → ℕ → Option ℕ → List ℕ → ℕ → TrialResult
    round next (stopped number kind u) s last out n = result number kind out n u
    round next (failed u) s last out n = copy_byte next s last out n u
    round next (matched e cs u) s last out n =
        let on = and_wrote (write s e cs out) (n + 1) u (λ now. next e (Some e) now (n + 1) u) in
        let again = copy_byte next s last out n u in
        when ends_again e last then again else on

    -- the one attempt of an anchored pattern
    unfoldable pub anchored_round : Outcome → TrialResult
    anchored_round (stopped number kind u) = result number kind [] 0 u
    anchored_round (failed u) = copy_rest 0 [] 0 u
    anchored_round (matched e cs u) = and_wrote (write 0 e cs []) 1 u (λ now. copy_rest e now 1 u)

module _ (in_class : ℕ → ℕ → Bool) (sub : List ℕ) (budget room : ℕ) (write : Writer) where
  -- an attempt starts at level 1 and takes a step at least, or ends the trial by 27: there are no more rounds than
  -- steps left, and one more, so the first case is never reached from `rounds` (`one_round` of proofs/Rounds.antt)
  unfoldable pub rounds_from : List Item → ℕ → Rounds
  rounds_from is zero s last out n u = result 0 0 out n u
  rounds_from is (suc fuel) s last out n u =
      round sub room write (rounds_from is fuel) (match in_class sub budget is s 1 [] u) s last out n

  unfoldable pub rounds : List Item → Rounds
  rounds is s last out n u = rounds_from is (suc (budget - u)) s last out n u

  -- a leading `^` anchors
  unfoldable pub str_gsub : List ℕ → TrialResult
  str_gsub pat =
      let anchored = anchored_round sub room write (match in_class sub budget (items pat 1) 0 1 [] 0) in
      let all = rounds (items pat 0) 0 None [] 0 0 in
      when eqb (byte_at pat 0) (code "^") then anchored else all

-- the writer of a replacement, strict or not by document 01's row "strict replacement, checked date"
unfoldable pub writer_of : ℕ → List ℕ → List ℕ → ℕ → Writer
writer_of version rep sub room s e cs out = add_pieces sub room s e cs (is_strict (rules_of version)) (pieces rep) out

-- 25 comes before all else
unfoldable pub gsub : ℕ → List ℕ → List ℕ → List ℕ → ℕ → ℕ → TrialResult
gsub version pat rep sub budget room =
    let trial = str_gsub (class_of version) sub budget room (writer_of version rep sub room) pat in
    when is_version version then trial else result 25 0 [] 0 0

-- the code's answer
abbrev pub report_of : Trial → Report
report_of r =
    record {
      number = r.number;
      kind = r.kind;
      written = r.written;
      replacements = r.replacements;
      steps = r.steps;
    }
