-- Why an event may be refused.
use Rattle.std.specs.Prelude.{}

-- the refusals of the machine's events, with their numbers
pub data Refusal : Type 0 where
  -- 1: the device answered with a fault
  DeviceFault : Refusal
  -- 5: a round is out
  InFlight : Refusal
  -- 20 to 24: a frame that was read is damaged
  BadMagic BadDigest BadLength BadPadding BadVersion : Refusal
  -- 26: a whole frame lies there, and it isn't the one that the locator means
  Misplaced : Refusal
  -- 30: no room for a frame; 31: too many bytes for a shard; 32: no room for another identifier
  Full TooLarge IndexFull : Refusal
  -- 33: the extent can't be swept, or isn't being swept; 34: a live chunk is on it; 35: a number would pass its
  -- greatest
  NotSweepable StillLive WornOut : Refusal
  -- 40: a fault in writeback stopped the core; 42: no round is out, or none of it left, or some of it left
  Halted NoRound : Refusal
