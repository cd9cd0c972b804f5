use Rattle.std.proofs.Common.{inr}
use Rattle.ffv1_commands.proofs.PictureSteps.{picture_of_bytes, any_picture_of_bytes}
use Rattle.ffv1_program.proofs.Unread.{unread_as, picture_unread, any_picture_unread}
use Rattle.ffv1_program.proofs.Unwritten.{err_out_also, picture_unwritten, any_picture_unwritten}
use Rattle.ffv1_program.proofs.pictures.picture_file.Goals as goal

pub returns-in-Profile : goal.returns-in-Profile
returns-in-Profile g c out =
    let r = c.picture_of.result in
    let bytes = picture_of_bytes _ _ _ _ _ _ r c.picture_of.ensures.reported in
    rw c.in-Profile.is (record {
      does = rw c.in_ok-file.ensures.bytes at bytes.ok;
      stops = rw c.in_ok-file.ensures.bytes at bytes.err;
      keeps = c.picture_of.ensures.untouched;
      refuses = tt;
      names = bytes.names;
      unread = unread_as _ _ r (λ path unread. (c.in_ok-file.file, c.picture_of.new.file, c.in_ok-file.ensures.at, unread))
          (picture_unread _ _ _ _ _ _ r c.picture_of.ensures.reported);
      unwritten = err_out_also _ _ _ r inr (picture_unwritten _ _ _ _ _ _ r c.picture_of.ensures.reported);
    })

pub returns : goal.returns
returns g c out =
    let r = c.any_picture_of.result in
    let bytes = any_picture_of_bytes _ _ _ _ _ _ r c.any_picture_of.ensures.reported in
    rw c.in-Any.is (record {
      does = rw c.in_ok-file.ensures.bytes at bytes.ok;
      stops = rw c.in_ok-file.ensures.bytes at bytes.err;
      keeps = c.any_picture_of.ensures.untouched;
      refuses = tt;
      names = bytes.names;
      unread = unread_as _ _ r (λ path unread. (c.in_ok-file.file, c.any_picture_of.new.file, c.in_ok-file.ensures.at, unread))
          (any_picture_unread _ _ _ _ _ _ r c.any_picture_of.ensures.reported);
      unwritten = err_out_also _ _ _ r inr (any_picture_unwritten _ _ _ _ _ _ r c.any_picture_of.ensures.reported);
    })
