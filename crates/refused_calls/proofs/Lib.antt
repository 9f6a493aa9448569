mod Ecalls
