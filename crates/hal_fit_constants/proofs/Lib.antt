mod Gives
