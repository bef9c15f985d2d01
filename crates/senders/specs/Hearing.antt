-- What one more frame does to the counts of senders.
use Rattle.std.specs.Prelude.{ℕ, suc, ◌+◌, ◌<◌, Bool, cond, not, ◌||◌, ◌&&◌, List, [], ◌∷◌, ◌++◌, map, ltb, length}
use Rattle.senders.specs.{declared.Sender.Sender, declared.Counted.Counted, Sender.same, Sender.among}
use Rattle.senders.specs.Counts.{step_to, repeats_by, missing_by}

-- the most senders that are told apart
abbrev pub senders_most : ℕ
senders_most = 64

-- nobody
abbrev pub no_one : Counted
no_one = record {
  who = record { octets = 0; pan_id = 0; address = 0 };
  last = 0;
  frames = 0;
  repeats = 0;
  missing = 0;
}

-- a sender's first frame
abbrev pub first_heard : Sender → ℕ → Counted
first_heard who number = record { who = who; last = number; frames = 1; repeats = 0; missing = 0 }

-- and each later one
unfoldable pub heard_again : Counted → ℕ → Counted
heard_again c number = record {
  who = c.who;
  last = number;
  frames = c.frames + 1;
  repeats = c.repeats + repeats_by (step_to c.last number);
  missing = c.missing + missing_by (step_to c.last number);
}

-- the place of a sender among those that are counted, or their number where it is none of them
unfoldable pub place_of : Sender → List Counted → ℕ
place_of who [] = 0
place_of who (c ∷ cs) = cond (same who c.who) 0 (suc (place_of who cs))

-- a frame of one of them
unfoldable pub hearing : Sender → ℕ → List Counted → List Counted
hearing who number [] = []
hearing who number (c ∷ cs) = cond (same who c.who) (heard_again c number ∷ cs) (c ∷ hearing who number cs)

-- a sender is one of them
abbrev pub is_known : Sender → List Counted → Bool
is_known who cs = among who (map (λ (c : Counted). c.who) cs)

-- "11, a sixty-fifth sender": there is no place for it
abbrev pub is_crowded : Sender → List Counted → Bool
is_crowded who cs = not (is_known who cs || ltb (length cs) senders_most)

-- the senders behind a frame of one: it is counted on, or it is new and has a place, or nothing changes
unfoldable pub heard_of : Sender → ℕ → List Counted → List Counted
heard_of who number cs =
    cond (is_known who cs) (hearing who number cs)
    (cond (ltb (length cs) senders_most) (cs ++ (first_heard who number ∷ [])) cs)

-- one more frame can be counted: far from what 64 bits hold
pub record Countable (c : Counted) : Type 0 where
  pub last : c.last < 256
  pub frames : c.frames < 1000000
  pub repeats : c.repeats < 1000000
  pub missing : c.missing < 256000000

abbrev pub can_go_on : Counted → Bool
can_go_on c = ltb c.last 256 && ltb c.frames 1000000 && ltb c.repeats 1000000 && ltb c.missing 256000000

abbrev pub AllCountable : List Counted → Type 0
AllCountable [] = Unit
AllCountable (c ∷ cs) = Countable c × AllCountable cs
