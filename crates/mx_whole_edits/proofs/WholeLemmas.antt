-- Edits, whole but for the walk.
use Rattle.std.proofs.Common.{◌≡◌, List, Some, None, Ok, Err, refl, sym, ◌∙◌, ap, subst}
use Rattle.mx_edit.specs.declared.edit.Edit.{Edit}
use Rattle.mx_edit.specs.declared.refusal.EditRefusal.{EditRefusal}
use Rattle.mx_edit.specs.declared.refusal.EditRefusal.TheVariants as refusal
use Rattle.mx_edit.specs.declared.refusal.Limit.{Limit}
use Rattle.mx_model.specs.Records.{Path, ModelRecord}
use Rattle.mx_model.specs.Inputs.{without_unfit}
use Rattle.mx_model.specs.Change.{change, bound_edit}
use Rattle.mx_model.specs.Refused.{record_trouble}
use Rattle.mx_model.specs.Rings.{IsRing, HasNoRing}
use Rattle.mx_model.specs.Counts.{over}
use Rattle.mx_model.specs.Apply.{changed, Apply}
use Rattle.mx_model.specs.Apply.{IsRefused as RefusedBy, HasRing as RingOf, IsOver as OverBy, IsStopped as StoppedBy, IsAccepted as AcceptedBy}
use Rattle.mx_model.specs.Walk.{Meets, MeetsNothing}
use Rattle.mx_apply.specs.Chain.{CanGoOn}
use Rattle.mx_apply.specs.Made.{IsTrouble}
use Rattle.mx_whole_edits.specs.Whole.{Stops, IsRefused, HasRing, IsOver, IsStopped, IsAccepted, EditsAreWhole}
use Rattle.mx_whole_edits.proofs.SameSpaces.{ring_as, ringless_as}

-- ---- without inputs

pub ring_kept : (text : ModelRecord) (ring : List Path) → IsRing text ring → IsRing (without_unfit text) ring
ring_kept text ring r = ring_as text (without_unfit text) refl ring r

no_ring_kept : (text : ModelRecord) → HasNoRing text → HasNoRing (without_unfit text)
no_ring_kept text none = ringless_as (without_unfit text) text refl none

pub goes_kept : (text : ModelRecord) → CanGoOn text → CanGoOn (without_unfit text)
goes_kept text c = record {
  ringless = record { bases = c.ringless.bases; no_ring = no_ring_kept text c.ringless.no_ring };
  sound = record { bases = c.sound.bases; paths = c.sound.paths };
}

-- ---- the answers

pub stopped_by : (text : ModelRecord) (e : Edit) (why : EditRefusal) → IsTrouble text e why → IsStopped text e why
stopped_by text e refusal.BadName t = IsRefused refusal.BadName t
stopped_by text e refusal.NoSuchSpace t = IsRefused refusal.NoSuchSpace t
stopped_by text e refusal.NoSuchMember t = IsRefused refusal.NoSuchMember t
stopped_by text e refusal.NameTaken t = IsRefused refusal.NameTaken t
stopped_by text e refusal.WrongCount t = IsRefused refusal.WrongCount t
stopped_by text e refusal.ItemAddress t = IsRefused refusal.ItemAddress t
stopped_by text e refusal.BadValue t = IsRefused refusal.BadValue t
stopped_by text e (refusal.InUse path) t = IsRefused (refusal.InUse path) t
stopped_by text e (refusal.Cycle ring) t = IsRefused (refusal.Cycle ring) t
stopped_by text e (refusal.TooMany l) t = IsRefused (refusal.TooMany l) t
stopped_by text e (refusal.NoOrder path) t = IsRefused (refusal.NoOrder path) t
stopped_by text e refusal.NoMemory t = tt

pub ring_stops : (text made : ModelRecord) (e : Edit) (ring : List Path) → record_trouble text e ≡ None → made ≡ change text (bound_edit text e) → IsRing made ring → IsStopped text e (refusal.Cycle ring)
ring_stops text made e ring free is r =
    HasRing ring free (subst (λ (t : ModelRecord). IsRing (without_unfit t) ring) is (ring_kept made ring r))

pub over_stops : (text made kept : ModelRecord) (e : Edit) (l : Limit) → record_trouble text e ≡ None → made ≡ change text (bound_edit text e) → CanGoOn made → kept ≡ without_unfit made → over kept ≡ Some l → IsStopped text e (refusal.TooMany l)
over_stops text made kept e l free is next k o =
    let same : kept ≡ changed text e = k ∙ ap without_unfit is in
    IsOver l free (subst (λ (t : ModelRecord). HasNoRing (without_unfit t)) is (no_ring_kept made next.ringless.no_ring)) (ap over (sym same) ∙ o)

pub accepted : (text made kept : ModelRecord) (e : Edit) → record_trouble text e ≡ None → made ≡ change text (bound_edit text e) → CanGoOn made → kept ≡ without_unfit made → over kept ≡ None → IsAccepted text e kept
accepted text made kept e free is next k o =
    let same : kept ≡ changed text e = k ∙ ap without_unfit is in
    record {
      free = free;
      counted = record { no_ring = subst (λ (t : ModelRecord). HasNoRing (without_unfit t)) is (no_ring_kept made next.ringless.no_ring); few = ap over (sym same) ∙ o };
      is = same;
    }

-- ---- with the walk

stops_whole : (text : ModelRecord) (e : Edit) (why : EditRefusal) → Stops text e why → Apply text e (Err why)
stops_whole text e why (IsRefused w t) = RefusedBy w t
stops_whole text e why (HasRing ring free r) = RingOf ring free r
stops_whole text e why (IsOver l free none o) = OverBy l free none o

pub whole : EditsAreWhole
whole text e = record {
  stops = stops_whole text e;
  meets = λ made why a m. StoppedBy why a.free a.counted (subst (λ (t : ModelRecord). Meets t why) a.is m);
  accepts = λ made a m. subst (λ (t : ModelRecord). Apply text e (Ok t)) (sym a.is) (AcceptedBy a.free a.counted (subst (λ (t : ModelRecord). MeetsNothing t) a.is m));
}
