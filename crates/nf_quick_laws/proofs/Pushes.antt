-- The push list along the shortest walk keeps a flow sound.
use Rattle.std.proofs.Common.{◌≡◌, ℕ, ◌<◌, List, [], ◌∷◌, length, Bool, true, false, Option, Some, None, Ok, sym, subst}
use Rattle.nf_quick_laws.proofs.Common.{slice_get_within, ℚ, 0ℚ, ◌+ℚ◌, ◌≤ℚ◌, ◌<ℚ◌, reading_of, le, linear_le, Passing, Network, IsNetwork, Step}
use Rattle.nf_quick_laws.proofs.Common.{IsResidualWalk, IsSound, HasRoomAlong, HasRoomOn, Walk, push_list, IsShortestWalk, IsPush, ≤ℚ_trans}
use Rattle.nf_quick_laws.proofs.Apart.{EachStep}
use Rattle.nf_quick_laws.proofs.Found.{EachHasLeast-sound}
use Rattle.nf_quick_laws.proofs.PushList.{IsPushed-list}

less_room : (x a b c : ℚ) → x +ℚ b ≤ℚ c → a ≤ℚ b → x +ℚ a ≤ℚ c
less_room x a b c h k = linear_le (x ∷ a ∷ b ∷ c ∷ []) (le h ∷ le k ∷ []) (search reading_of) tt

along_less : (d : Bool) (capacity : Option ℚ) (x a b : ℚ) → a ≤ℚ b → HasRoomAlong d capacity x b → HasRoomAlong d capacity x a
along_less true None x a b h r = tt
along_less true (Some c) x a b h r = less_room x a b c r h
along_less false capacity x a b h r = ≤ℚ_trans _ _ _ h r

pub HasRoomOn-less : (net : Network) (flows : List ℚ) (a b : ℚ) (walk : List Step) → a ≤ℚ b → HasRoomOn net flows b walk → HasRoomOn net flows a walk
HasRoomOn-less net flows a b [] h r = tt
HasRoomOn-less net flows a b (step ∷ walk) h r = ((λ link p. along_less step.forward link.capacity _ a b h (r.0 link p)), HasRoomOn-less net flows a b walk h r.1)

pub links_within : (net : Network) (flows : List ℚ) (n : ℕ) (walk : List Step) (v w : ℕ) → n ≡ length net.links → IsResidualWalk net flows walk v w
    → EachStep (λ step. step.link < n) walk
links_within net flows n [] v w e p = tt
links_within net flows n (step ∷ walk) v w e p =
    (subst (λ (k : ℕ). step.link < k) (sym e) (slice_get_within net.links step.link p.1.link p.1.is_link), links_within net flows n walk p.0 w e p.2)

pub IsPush-list : (passes : Passing) (net : Network) (flows new : List ℚ) (walk : Walk) (amount : ℚ) → IsNetwork net → IsSound net flows → IsShortestWalk net flows walk → 0ℚ <ℚ amount
    → amount ≤ℚ walk.room → push_list passes walk.steps amount flows ≡ Ok new → IsPush net flows new walk.steps amount
IsPush-list passes net flows new walk amount good sound shortest some within e = record {
  sound = sound;
  each = EachHasLeast-sound net flows net.source good good.source sound.closed;
  first = shortest.first;
  some = some;
  room = HasRoomOn-less net flows amount walk.room walk.steps within shortest.room_is.has_room;
  pushed = IsPushed-list passes amount walk.steps flows new (links_within net flows (length flows) walk.steps net.source net.sink sound.flow.count shortest.first.is_walk) e;
}
